-- What was demonstrated is a session of its schema.
use Rattle.std.proofs.Common.{sym, subst}
use Rattle.test_sessions.specs.Words.{EnabledRows, IsSession}
use Rattle.test_sessions.proofs.sessions.demonstrated.ends.Goals as goal

pub is_stopped-requires : goal.is_stopped-requires
is_stopped-requires g c = subst (λ (s : EnabledRows). IsSession s c.args.shown.session) (sym c.requires.schema) c.requires.session
