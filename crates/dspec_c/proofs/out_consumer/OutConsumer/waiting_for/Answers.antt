use Rattle.std.proofs.Common.{rules}
use Rattle.dspec_c.proofs.ConsumerHomes.{stays_out}
use Rattle.dspec_c.proofs.out_consumer.OutConsumer.waiting_for.Goals as goal

pub invariant_of-self : goal.invariant_of-self
invariant_of-self c = (search rules, stays_out _ _ _ _ c.self.invariant.1 c.waiting_for.ensures.same, c.self.invariant.2)
