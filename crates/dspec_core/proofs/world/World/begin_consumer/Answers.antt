-- What is promised, from coherence.
use Rattle.dspec_core.proofs.PromiseKept.{promise_kept}
use Rattle.dspec_core.proofs.world.World.begin_consumer.Goals as goal

pub returns-then-not-is_about-clause-promised : goal.returns-then-not-is_about-clause-promised
returns-then-not-is_about-clause-promised g c = rw (← c.self.view_is) (promise_kept c.self.invariant)

pub returns-then-not-is_idle-clause-promised : goal.returns-then-not-is_idle-clause-promised
returns-then-not-is_idle-clause-promised g c = rw (← c.self.view_is) (promise_kept c.self.invariant)

pub returns-clause-promised : goal.returns-clause-promised
returns-clause-promised g c = promise_kept c.begin_consumer.ensures.kept
