use Rattle.dspec_deeds.proofs.BareReads.{shows_bare}
use Rattle.dspec_deeds.proofs.lists.bare_shows.Goals as goal

pub returns : goal.returns
returns c h = shows_bare h
