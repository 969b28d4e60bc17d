use Rattle.dspec_deeds.proofs.OwnStates.{tells_present}
use Rattle.dspec_deeds.proofs.lists.own_marks.Goals as goal

pub returns : goal.returns
returns c = tells_present
