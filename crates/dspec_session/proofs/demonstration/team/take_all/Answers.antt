use Rattle.dspec_session.proofs.Fours.{all_four}
use Rattle.dspec_session.proofs.demonstration.team.take_all.Goals as goal

pub returns-clause-all : goal.returns-clause-all
returns-clause-all c =
    (all_four c.args.cpus.now.items _ _ _ _ _ _ _ _ c.requires c.remove-first.ensures.value c.remove-first.ensures.items c.remove-second.ensures.value c.remove-second.ensures.items
    c.remove-third.ensures.value c.remove-third.ensures.items c.remove-fourth.ensures.value c.remove-fourth.ensures.items).0

pub returns-clause-none : goal.returns-clause-none
returns-clause-none c =
    (all_four c.args.cpus.now.items _ _ _ _ _ _ _ _ c.requires c.remove-first.ensures.value c.remove-first.ensures.items c.remove-second.ensures.value c.remove-second.ensures.items
    c.remove-third.ensures.value c.remove-third.ensures.items c.remove-fourth.ensures.value c.remove-fourth.ensures.items).1
