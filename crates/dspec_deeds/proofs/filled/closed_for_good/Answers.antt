use Rattle.dspec_deeds.proofs.FullBuffers.{accepts_none}
use Rattle.dspec_deeds.proofs.filled.closed_for_good.Goals as goal

pub returns : goal.returns
returns c = accepts_none
