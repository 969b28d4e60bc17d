use Rattle.dspec_parking.proofs.Leaving.{oldest_first}
use Rattle.dspec_parking.proofs.laws.oldest_go_first.Goals as goal

pub returns : goal.returns
returns c = oldest_first
