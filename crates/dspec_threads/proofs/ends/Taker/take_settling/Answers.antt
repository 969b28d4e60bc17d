use Rattle.std.proofs.Common.{◌≤◌, ◌∙◌, ap, arith}
use Rattle.dspec_threads.specs.Words.{settled_by}
use Rattle.dspec_threads.proofs.MoreWaits.{attends_no_more, attends_once_more, first_of_first, first_of_longer}
use Rattle.dspec_threads.proofs.ends.Taker.take_settling.Goals as goal

pub loop-preserved : goal.loop-preserved
loop-preserved g c =
    let looked = c.in_default.ensures.looks in
    let settled = first_of_first _ _ _ c.loop.invariant.seen looked.2 in
    record {
      same = c.in_default.ensures.same ∙ c.loop.invariant.same;
      belt = c.in_default.ensures.belt ∙ c.loop.invariant.belt;
      ring = c.in_default.ensures.ring ∙ c.loop.invariant.ring;
      taken = looked.0 ∙ c.loop.invariant.taken;
      attends = attends_once_more _ _ _ _ _ _ _ _ _ c.loop.invariant.attends looked.1;
      seen = first_of_longer _ _ _ settled;
      settled = λ _. settled;
    }

pub returns-in-Some-clause-attends : goal.returns-in-Some-clause-attends
returns-in-Some-clause-attends g c =
    let few : c.loop.counter ≤ c.args.looks = omega (arith, c.loop-test.true) in
    attends_no_more _ _ _ _ _ _ _ _ _ _ few c.loop.invariant.attends c.in-Some.ensures.looks.1 (ap (λ s. settled_by s) c.in-Some.ensures.looks.2)
