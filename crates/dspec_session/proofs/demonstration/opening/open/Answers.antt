use Rattle.std.proofs.Common.{subst, ap, arith, IfOk}
use Rattle.dspec_session.specs.Words.{Config, IsSession}
use Rattle.dspec_session.proofs.Opened.{has_room}
use Rattle.dspec_session.proofs.demonstration.opening.open.Goals as goal

pub returns-clause-session : goal.returns-clause-session
returns-clause-session c =
    subst (λ schema. IfOk c.start.result (λ s. IsSession schema s)) c.requires c.start.ensures.session

pub returns-clause-room : goal.returns-clause-room
returns-clause-room c =
    let most = ap (λ (k : Config). k.max_calls) c.demo_config.ensures in
    has_room c.start.result c.demo_config.result (omega arith) c.start.ensures.config (returns-clause-session c) c.start.ensures.fresh
