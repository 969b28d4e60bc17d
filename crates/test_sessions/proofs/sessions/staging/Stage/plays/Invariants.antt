-- The session is still one.
use Rattle.test_sessions.specs.Words.{IsSession}
use Rattle.test_sessions.proofs.sessions.staging.Stage.plays.Given as goal

abbrev pub invariant-loop-number : goal.invariant-loop-number
invariant-loop-number g l =
    IsSession l.self.schema l.self.session
