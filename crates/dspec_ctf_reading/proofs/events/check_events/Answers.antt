use Rattle.std.proofs.Common.{rules, arith, ◌≡◌, ◌<◌, Some, length, option_map}
use Rattle.dspec_ctf_reading.specs.Words.{read_event, read_events, told_layout}
use Rattle.dspec_ctf_reading.proofs.EventLemmas.{after-one-more, count-more}
use Rattle.dspec_ctf_reading.proofs.events.check_events.Goals as goal

pub loop-rest-preserved : goal.loop-rest-preserved
loop-rest-preserved c =
    let some : 0 < length c.loop-rest.rest.now = search rules in
    let read : option_map (λ p. p.1) (read_event (told_layout c.args.metadata.now) c.loop-rest.rest.now) ≡ Some c.in-Ok.next.now = search rules in
    record {
      so_far =
          count-more (told_layout c.args.metadata.now) c.loop-rest.count (option_map length (read_events (told_layout c.args.metadata.now) c.args.body.now))
          c.loop-rest.rest.now c.in-Ok.next.now some c.loop-rest.invariant.so_far read;
      reached = after-one-more (told_layout c.args.metadata.now) c.loop-rest.count c.args.body.now c.loop-rest.rest.now c.in-Ok.next.now c.loop-rest.invariant.reached read;
      within = omega (arith, c.in-Ok.ensures.shorter);
    }
