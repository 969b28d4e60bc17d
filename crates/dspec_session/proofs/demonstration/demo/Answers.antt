-- The lines are those of the demonstration that was shown.
use Rattle.dspec_session.proofs.demonstration.demo.Goals as goal

pub returns-clause-shown : goal.returns-clause-shown
returns-clause-shown g c = (c.in_ok-shown.shown, c.in_ok-shown.ensures, c.lines.ensures.ordered)
