use Rattle.dspec_paths.proofs.Opening.{others_keep}
use Rattle.dspec_paths.proofs.laws.others_keep.Goals as goal

pub returns : goal.returns
returns c = others_keep
