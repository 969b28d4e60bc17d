use Rattle.dspec_deeds.proofs.OwnStates.{side_part, last_bare}
use Rattle.dspec_deeds.proofs.lists.own_sides.Goals as goal

pub returns-clause-parts : goal.returns-clause-parts
returns-clause-parts c = side_part

pub returns-clause-unsealed : goal.returns-clause-unsealed
returns-clause-unsealed c = last_bare
