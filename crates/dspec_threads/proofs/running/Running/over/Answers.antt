use Rattle.std.proofs.{Common.ap, Common.length, Common.arith, lemmas.Bool.Decides.nat_tests, lemmas.List.length-map}
use Rattle.std.specs.Arc.{arc_value}
use Rattle.dspec_threads.specs.Words.{all_whereabouts, waits_inside, whereabouts, who_is_in}
use Rattle.dspec_threads.proofs.Runs.{all_at_home}
use Rattle.dspec_threads.proofs.running.Running.over.Goals as goal

pub invariant_of-result : goal.invariant_of-result
invariant_of-result g c =
    let count = ap length c.in_ok-places.ensures in (
      all_at_home (g.K.Sink.gets c.args.schema) g.D.Duty.done c.args.schema c.args.session (arc_value c.in_ok-common.common.shared) c.args.count (all_whereabouts c.in_ok-places.places.items)
          _ c.args.sink c.requires.session.0 c.requires.session.1 c.requires.fresh c.in_ok-common.ensures.shared c.requires.consumer.0 c.requires.consumer.1 c.in_ok-places.ensures c.of-2.ensures,
      (
        c.in_ok-room.ensures.items,
        omega (arith, length-map c.in_ok-places.places.items whereabouts, count, length-map c.args.session.cpus.items waits_inside, c.in_ok-room.ensures.capacity, c.len.ensures),
      ),
    )

pub returns-clause-running : goal.returns-clause-running
returns-clause-running g c = grind (arith, nat_tests, c.in_ok-common.ensures.shared, c.in_ok-common.ensures.free, c.of-2.ensures)

pub returns-clause-home : goal.returns-clause-home
returns-clause-home g c = ap who_is_in c.in_ok-places.ensures
