use Rattle.dspec_deeds.proofs.WholeLists.{late_once}
use Rattle.dspec_deeds.proofs.rules.late_once.Goals as goal

pub returns : goal.returns
returns c = late_once
