use Rattle.dspec_deeds.proofs.WholeLists.{settles_once}
use Rattle.dspec_deeds.proofs.rules.settled_once.Goals as goal

pub returns : goal.returns
returns c = settles_once
