-- What is promised, from coherence.
use Rattle.dspec_core.proofs.PromiseKept.{promise_kept}
use Rattle.dspec_core.proofs.world.World.new.Goals as goal

pub returns-clause-promised : goal.returns-clause-promised
returns-clause-promised g c = promise_kept c.in-Ok.ensures.kept
