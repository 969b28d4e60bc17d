-- One verdict more came out, and was done.
use Rattle.std.proofs.Common.{◌≡◌, ◌+◌, ◌∙◌, length, ap, arith}
use Rattle.rtrb.specs.Ring.{known_items}
use Rattle.dspec_threads.proofs.MoreVerdicts.{one_more_settled, still_seen}
use Rattle.dspec_threads.proofs.settling.Settler.settle.Goals as goal

pub loop-preserved : goal.loop-preserved
loop-preserved g c =
    let popped = c.pop_known-verdict in
    let fewer : length (known_items c.loop.self.coming) ≡ length (known_items popped.new.self) + 1 = grind (arith, ap length popped.ensures.received.1) in
    let left = c.loop.invariant.left in
    record {
      left = omega arith;
      seen = still_seen _ _ _ _ _ popped.ensures.received.0 popped.ensures.received.1 c.loop.invariant.seen;
      same = c.decide.ensures.same ∙ c.loop.invariant.same;
      ring = grind (arith, popped.ensures.ring, c.loop.invariant.ring);
      settled = one_more_settled _ g.J.Judging.may _ _ _ _ _ _ _ _ c.loop.invariant.settled popped.ensures.received.0 popped.ensures.allowed c.decide.ensures;
    }
