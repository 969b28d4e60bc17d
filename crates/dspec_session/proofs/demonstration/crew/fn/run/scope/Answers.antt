use Rattle.std.proofs.Common.{rules}
use Rattle.dspec_session.proofs.Handles.{is_back}
use Rattle.dspec_session.proofs.demonstration.crew.fn.run.scope.Goals as goal

pub returns : goal.returns
returns g c =
    record {
      workers = record {
        first = is_back c.start-first.result _ _ _ _ c.start-first.ensures.taken c.in_ok-first.ensures;
        second = is_back c.start-second.result _ _ _ _ c.start-second.ensures.taken c.in_ok-second.ensures;
        third = is_back c.start-third.result _ _ _ _ c.start-third.ensures.taken c.in_ok-third.ensures;
        fourth = is_back c.start-fourth.result _ _ _ _ c.start-fourth.ensures.taken c.in_ok-fourth.ensures;
      };
      consumer = search rules;
      rounds = search rules;
    }
