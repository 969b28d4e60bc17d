use Rattle.dspec_table.proofs.Owners.{owners}
use Rattle.dspec_table.proofs.laws.deeds_have_seats.Goals as goal

pub returns : goal.returns
returns u = owners
