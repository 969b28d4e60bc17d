use Rattle.dspec_parking.proofs.Keeping.{begins}
use Rattle.dspec_parking.proofs.laws.beginning_keeps_page.Goals as goal

pub returns : goal.returns
returns c = begins
