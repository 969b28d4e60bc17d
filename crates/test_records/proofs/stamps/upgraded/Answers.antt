-- A buffer that was just made is empty by every schema.
use Rattle.test_records.proofs.stamps.upgraded.Goals as goal

pub upgrade-answer-requires-clause-empty : goal.upgrade-answer-requires-clause-empty
upgrade-answer-requires-clause-empty g c = c.in_ok-to.ensures.empty c.in_ok-old.old
