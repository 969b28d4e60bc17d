use Rattle.dspec_session_core.proofs.ClosingRests.{one_left}
use Rattle.dspec_session_core.proofs.laws.one_batch_left.Goals as goal

pub returns : goal.returns
returns c = one_left
