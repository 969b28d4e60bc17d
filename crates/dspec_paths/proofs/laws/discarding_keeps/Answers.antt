use Rattle.dspec_paths.proofs.Keeping.{discards}
use Rattle.dspec_paths.proofs.laws.discarding_keeps.Goals as goal

pub returns : goal.returns
returns c = discards
