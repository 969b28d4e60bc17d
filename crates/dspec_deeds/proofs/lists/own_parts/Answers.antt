use Rattle.dspec_deeds.proofs.OwnParts.{own_of_fitting, fitting_of_own}
use Rattle.dspec_deeds.proofs.lists.own_parts.Goals as goal

pub returns-clause-parts : goal.returns-clause-parts
returns-clause-parts c shape k h fitting cpu lt = own_of_fitting shape k cpu h fitting

pub returns-clause-whole : goal.returns-clause-whole
returns-clause-whole c = fitting_of_own
