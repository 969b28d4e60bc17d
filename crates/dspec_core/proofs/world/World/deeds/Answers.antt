-- What is promised, from coherence.
use Rattle.dspec_core.proofs.PromiseKept.{promise_kept}
use Rattle.dspec_core.proofs.world.World.deeds.Goals as goal

pub returns-clause-promised : goal.returns-clause-promised
returns-clause-promised g c = rw (← c.self.view_is) (promise_kept c.self.invariant)
