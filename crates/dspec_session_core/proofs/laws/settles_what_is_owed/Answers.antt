use Rattle.dspec_session_core.proofs.OwedSaid.{closing_owed}
use Rattle.dspec_session_core.proofs.laws.settles_what_is_owed.Goals as goal

pub returns : goal.returns
returns c shape k h fine rest = closing_owed shape k fine h rest
