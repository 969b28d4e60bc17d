use Rattle.std.proofs.Common.{◌≤◌, ◌∙◌, arith}
use Rattle.dspec_threads.proofs.MoreWaits.{asks_attending_once_more, opens_attending}
use Rattle.dspec_threads.proofs.attending.open_settling.Goals as goal

pub loop-preserved : goal.loop-preserved
loop-preserved g c = record {
  same = c.in_default.ensures.same ∙ c.loop.invariant.same;
  ring = c.in_default.ensures.ring ∙ c.loop.invariant.ring;
  asks = asks_attending_once_more _ _ _ _ _ _ _ _ _ c.loop.invariant.asks c.in_default.ensures.asks;
}

pub returns-in-Some-clause-opens : goal.returns-in-Some-clause-opens
returns-in-Some-clause-opens g c =
    let few : c.loop.counter ≤ c.args.more = omega (arith, c.loop-test.true) in
    opens_attending _ _ _ _ _ _ _ _ _ _ _ few c.loop.invariant.asks c.in-Some.ensures.asks.0 c.in-Some.ensures.asks.1
