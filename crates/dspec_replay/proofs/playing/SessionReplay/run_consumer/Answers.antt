-- The session is still one after a call of its consumer.
use Rattle.std.proofs.Common.{refl}
use Rattle.dspec_session_core.proofs.Callings.{consumer_called}
use Rattle.dspec_replay.proofs.playing.SessionReplay.run_consumer.Goals as goal

pub returns-clause-session : goal.returns-clause-session
returns-clause-session g c = consumer_called _ c.args.self.now.session _ c.requires.session c.call_consumer.ensures.session c.call_consumer.ensures.same refl refl
