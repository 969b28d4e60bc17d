use Rattle.dspec_deeds.proofs.FullBuffers.{empty_piece}
use Rattle.dspec_deeds.proofs.filled.empty_fits.Goals as goal

pub returns : goal.returns
returns c = empty_piece
