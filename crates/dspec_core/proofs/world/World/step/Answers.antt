-- What is promised, from coherence.
use Rattle.dspec_core.proofs.PromiseKept.{promise_kept}
use Rattle.dspec_core.proofs.world.World.step.Goals as goal

pub returns-in_err-_call-clause-promised : goal.returns-in_err-_call-clause-promised
returns-in_err-_call-clause-promised g c = rw (← c.self.view_is) (promise_kept c.self.invariant)
