use Rattle.std.specs.Arc.{arc_value}
use Rattle.dspec_c.specs.Words.{waiting_so}
use Rattle.dspec_c.proofs.Each.{first_called, one_mapped, rest_called}
use Rattle.dspec_c.proofs.places.places.Goals as goal

pub place-requires : goal.place-requires
place-requires c = first_called _ _ _ _ c.in_ok-cpu.ensures.cons c.loop-alloc.invariant.called

pub loop-alloc-preserved : goal.loop-alloc-preserved
loop-alloc-preserved c = record {
  called = rest_called _ _ _ _ c.in_ok-cpu.ensures.cons c.loop-alloc.invariant.called;
  waiting = one_mapped (waiting_so (arc_value c.args.shared.now)) _ _ _ _ _ _ _ c.in_ok-cpu.ensures.cons c.in_ok-push.ensures.items c.in_ok-place.ensures c.loop-alloc.invariant.waiting;
}
