use Rattle.std.proofs.{Common.IfOk, Common.refl, Common.subst, Common.arith, lemmas.Bool.Decides.nat_tests, lemmas.List.length-map}
use Rattle.std.specs.{Arc.arc_value, Prelude.IfSome}
use Rattle.dspec_threads.specs.Words.{EachPair, KeepsPlace, LooksAndSends, StaysIn, whereabouts, IsLaneOf, RunningSession}
use Rattle.dspec_threads.proofs.{Pairs.pair_count, Runs.lane_sent, Runs.later_so, Runs.none_handed, Runs.of_run, Runs.placed_later, Whereabouts.one_placed, Whereabouts.seen_after}
use Rattle.dspec_threads.proofs.{Whereabouts.seen_handed, Whereabouts.seen_later, Whereabouts.sends_keeps}
use Rattle.dspec_threads.proofs.running.Running.lane.Goals as goal

pub send_out_at-requires-clause-callable : goal.send_out_at-requires-clause-callable
send_out_at-requires-clause-callable g c =
    of_run (g.K.Sink.gets c.self.inside.schema) g.D.Duty.done (arc_value c.self.inside.common.shared) (arc_value c.self.inside.common.shared) _ _ _ _ _ _ c.self.invariant.0 refl

pub invariant_of-self : goal.invariant_of-self
invariant_of-self g c =
    let done = g.D.Duty.done in
    let a = c.send_out_at.result in
    let placed = one_placed done (LooksAndSends done a) (sends_keeps done a) c.args.number _ _ c.send_out_at.ensures in (
      placed_later (g.K.Sink.gets c.self.inside.schema) done (KeepsPlace done) (λ v w is. is) (arc_value c.self.inside.common.shared) _ _ _ _ _ _ _ placed c.self.invariant.0,
      (
        c.self.invariant.1.0,
        omega (arith, c.self.invariant.1.1, pair_count (KeepsPlace done) _ _ placed, length-map c.self.inside.places.items whereabouts, length-map c.send_out_at.new.places.items whereabouts),
      ),
    )

pub returns-clause-hands : goal.returns-clause-hands
returns-clause-hands g c =
    let done = g.D.Duty.done in
    let a = c.send_out_at.result in
    record {
      same = later_so _ _ _ _ _ _ _ _ c.self.view_is;
      looked = seen_after done a c.args.number _ _ c.send_out_at.ensures;
      later = subst (λ (r : RunningSession g.row.K.Denot). EachPair StaysIn r.home (seen_after done a c.args.number _ _ c.send_out_at.ensures)) c.self.view_is
          (seen_later done a c.args.number _ _ c.send_out_at.ensures);
      hands = seen_handed done a c.args.number _ _ c.send_out_at.ensures;
    }

pub returns-then-index-len-clause-hands : goal.returns-then-index-len-clause-hands
returns-then-index-len-clause-hands g c = grind (arith, nat_tests, length-map, none_handed, c.len.ensures, c.if-index-len.true, c.self.view_is)

pub returns-clause-lane : goal.returns-clause-lane
returns-clause-lane g c =
    subst (λ (r : RunningSession g.row.K.Denot). IfOk c.send_out_at.result (λ o. IfSome o (λ lane. IsLaneOf g.D.Duty.done r.schema c.args.number lane))) c.self.view_is
    (lane_sent (g.K.Sink.gets c.self.inside.schema) g.D.Duty.done c.send_out_at.result (arc_value c.self.inside.common.shared) _ _ c.args.number _ _ _ _ _ c.self.invariant.0 c.send_out_at.ensures)
