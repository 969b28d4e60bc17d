use Rattle.std.proofs.Common.{refl}
use Rattle.dspec_session_core.proofs.Callings.{consumer_called}
use Rattle.test_sessions.proofs.sessions.staging.Stage.refuses.Goals as goal

pub returns : goal.returns
returns g c =
    record {
      session = consumer_called _ c.args.self.now.session _ c.requires.session c.comes_back-back.ensures.session c.comes_back-back.ensures.same refl refl;
    }
