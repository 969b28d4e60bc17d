use Rattle.std.proofs.Common.{refl, rules}
use Rattle.dspec_c.proofs.{Calls.gave_so, ConsumerHomes.stays_out}
use Rattle.dspec_c.proofs.out_consumer.OutConsumer.give_back.Goals as goal

pub invariant_of-self : goal.invariant_of-self
invariant_of-self c = (search rules, stays_out _ _ _ _ c.self.invariant.1 c.give_back.ensures.same, c.self.invariant.2)

pub returns-clause-did : goal.returns-clause-did
returns-clause-did c = gave_so c.args.batch c.give_back.result _ _ _ c.self.view_is refl c.give_back.ensures.given c.give_back.ensures.refused c.give_back.ensures.why
