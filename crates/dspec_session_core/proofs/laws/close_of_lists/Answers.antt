use Rattle.dspec_session_core.proofs.ClosingLists.{closes_as}
use Rattle.dspec_session_core.proofs.laws.close_of_lists.Goals as goal

pub returns : goal.returns
returns c = closes_as
