use Rattle.std.proofs.Common.{refl, rules}
use Rattle.dspec_c.proofs.{Calls.took_so, ConsumerHomes.stays_out}
use Rattle.dspec_c.proofs.out_consumer.OutConsumer.take.Goals as goal

pub invariant_of-self : goal.invariant_of-self
invariant_of-self c = (search rules, stays_out _ _ _ _ c.self.invariant.1 c.take.ensures.same, c.self.invariant.2)

pub returns-clause-did : goal.returns-clause-did
returns-clause-did c = took_so c.args.cpu c.take.result _ _ _ c.self.view_is refl c.take.ensures.took c.take.ensures.none
