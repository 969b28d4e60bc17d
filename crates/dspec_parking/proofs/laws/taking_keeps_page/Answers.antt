use Rattle.dspec_parking.proofs.Keeping.{takes}
use Rattle.dspec_parking.proofs.laws.taking_keeps_page.Goals as goal

pub returns : goal.returns
returns c = takes
