use Rattle.dspec_session.proofs.Ended.{still_session}
use Rattle.dspec_session.proofs.demonstration.ending.stop.Goals as goal

pub returns-clause-session : goal.returns-clause-session
returns-clause-session c = still_session c.args.session c.stop.new.self c.requires c.stop.ensures.session c.stop.ensures.same
