use Rattle.dspec_paths.proofs.Turned.{turns}
use Rattle.dspec_paths.proofs.laws.turning_keeps.Goals as goal

pub returns : goal.returns
returns c = turns
