use Rattle.std.proofs.Common.{refl, sym, subst}
use Rattle.dspec_c.specs.Words.{ToldSo}
use Rattle.dspec_c.proofs.Calls.{on_lent_consumer}
use Rattle.dspec_c.proofs.consumer_calls.dspec_waiting_for.Goals as goal

pub returns-in-Some-clause-answers : goal.returns-in-Some-clause-answers
returns-in-Some-clause-answers c = on_lent_consumer _ _ c.args.consumer.now _ _ _ _ c.lend.ensures.value c.in-Consumer.is
    (c.waiting_for.result, subst (λ a. ToldSo a 0 c.args.count.now c.in-Some.number) (sym c.in-Some.is) (refl, refl), record { out = c.waiting_for.ensures.did; taken = refl })

pub returns-in-None-clause-answers : goal.returns-in-None-clause-answers
returns-in-None-clause-answers c = on_lent_consumer _ _ c.args.consumer.now _ _ _ _ c.lend.ensures.value c.in-Consumer.is
    (c.waiting_for.result, subst (λ a. ToldSo a 19 c.args.count.now c.args.count.now) (sym c.in-None.is) (refl, refl), record { out = c.waiting_for.ensures.did; taken = refl })
