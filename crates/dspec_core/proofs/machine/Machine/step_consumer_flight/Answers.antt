use Rattle.std.proofs.{Common.◌≡◌, Common.true, Common.subst, Common.arith, lemmas.Bool.Decides.nat_tests}
use Rattle.std.specs.Prelude.{nat_lt}
use Rattle.dspec_core.specs.Words.{ConsumerOp, ConsumerFlight, consumer_op_of, is_about}
use Rattle.dspec_core.proofs.machine.Machine.step_consumer_flight.Goals as goal

pub step_ask-requires-clause-cpu : goal.step_ask-requires-clause-cpu
step_ask-requires-clause-cpu g c =
    let k = c.args.self.now.config in
    let about = subst (λ (f : ConsumerFlight). is_about k (consumer_op_of f) ≡ true) c.in-Begun.is (c.requires.kept.about c.args.flight c.requires.flight) in
    let below : nat_lt c.in-Ask.cpu k.cpus ≡ true = subst (λ (o : ConsumerOp). is_about k o ≡ true) c.in-Ask.is about in
    grind (arith, nat_tests)

pub step_take-requires-clause-cpu : goal.step_take-requires-clause-cpu
step_take-requires-clause-cpu g c =
    let k = c.args.self.now.config in
    let about = subst (λ (f : ConsumerFlight). is_about k (consumer_op_of f) ≡ true) c.in-Begun.is (c.requires.kept.about c.args.flight c.requires.flight) in
    let below : nat_lt c.in-Take.cpu k.cpus ≡ true = subst (λ (o : ConsumerOp). is_about k o ≡ true) c.in-Take.is about in
    grind (arith, nat_tests)

pub step_give_back-requires-clause-cpu : goal.step_give_back-requires-clause-cpu
step_give_back-requires-clause-cpu g c =
    let k = c.args.self.now.config in
    let about = subst (λ (f : ConsumerFlight). is_about k (consumer_op_of f) ≡ true) c.in-Begun.is (c.requires.kept.about c.args.flight c.requires.flight) in
    let below : nat_lt c.in-GiveBack.cpu k.cpus ≡ true = subst (λ (o : ConsumerOp). is_about k o ≡ true) c.in-GiveBack.is about in
    grind (arith, nat_tests)
