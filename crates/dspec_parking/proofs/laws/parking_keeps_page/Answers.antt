use Rattle.dspec_parking.proofs.Keeping.{parks}
use Rattle.dspec_parking.proofs.laws.parking_keeps_page.Goals as goal

pub returns : goal.returns
returns c = parks
