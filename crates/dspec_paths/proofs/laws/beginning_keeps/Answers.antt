use Rattle.dspec_paths.proofs.Opening.{begins}
use Rattle.dspec_paths.proofs.laws.beginning_keeps.Goals as goal

pub returns : goal.returns
returns c = begins
