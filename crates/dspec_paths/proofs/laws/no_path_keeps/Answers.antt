use Rattle.dspec_paths.proofs.Opening.{none_begun}
use Rattle.dspec_paths.proofs.laws.no_path_keeps.Goals as goal

pub returns : goal.returns
returns c = none_begun 64
