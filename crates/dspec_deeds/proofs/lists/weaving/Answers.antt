use Rattle.dspec_deeds.proofs.WovenLists.{weaves}
use Rattle.dspec_deeds.proofs.lists.weaving.Goals as goal

pub returns : goal.returns
returns c = weaves
