use Rattle.std.proofs.Common.{◌≤◌, ◌∙◌, arith}
use Rattle.dspec_threads.proofs.MoreWaits.{serves_no_more, serves_once_more}
use Rattle.dspec_threads.proofs.ends.Taker.take_within.Goals as goal

pub loop-preserved : goal.loop-preserved
loop-preserved g c = record {
  same = c.in_default.ensures.same ∙ c.loop.invariant.same;
  belt = c.in_default.ensures.belt ∙ c.loop.invariant.belt;
  taken = c.in_default.ensures.looks.0 ∙ c.loop.invariant.taken;
  serves = serves_once_more _ _ _ _ _ c.loop.invariant.serves c.in_default.ensures.looks.1;
}

pub returns-in-Some-clause-serves : goal.returns-in-Some-clause-serves
returns-in-Some-clause-serves g c =
    let few : c.loop.counter ≤ c.args.looks = omega (arith, c.loop-test.true) in
    serves_no_more _ _ _ _ _ _ few c.loop.invariant.serves c.in-Some.ensures.looks.1
