use Rattle.dspec_deeds.proofs.WholeLists.{given_below}
use Rattle.dspec_deeds.proofs.rules.given_below.Goals as goal

pub returns : goal.returns
returns c = given_below
