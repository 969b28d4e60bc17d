use Rattle.dspec_parking.proofs.Leaving.{ends_all}
use Rattle.dspec_parking.proofs.laws.leaving_ends_all.Goals as goal

pub returns : goal.returns
returns c = ends_all
