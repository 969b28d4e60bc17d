use Rattle.dspec_table.proofs.Places.{slot_there}
use Rattle.dspec_table.proofs.layout.slot_place.Goals as goal

pub returns-clause-slot : goal.returns-clause-slot
returns-clause-slot c = slot_there c.args.slot
