use Rattle.dspec_ctf.proofs.Spreading.{Spreads-append}
use Rattle.dspec_ctf.proofs.laws.batches_go_on.Goals as goal

pub returns : goal.returns
returns c = λ lasts mid new rs qs files more first then. Spreads-append lasts mid new rs qs files more first then
