use Rattle.dspec_parking.proofs.Keeping.{expires}
use Rattle.dspec_parking.proofs.laws.expiring_keeps_page.Goals as goal

pub returns : goal.returns
returns c = expires
