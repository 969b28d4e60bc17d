use Rattle.dspec_paths.proofs.Keeping.{adopts}
use Rattle.dspec_paths.proofs.laws.adopting_keeps.Goals as goal

pub returns : goal.returns
returns c = adopts
