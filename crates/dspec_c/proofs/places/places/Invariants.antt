use Rattle.std.proofs.Common.{◌≡◌, ◌++◌, length}
use Rattle.std.specs.{Arc.arc_value, Prelude.map}
use Rattle.dspec_c.specs.Words.{AllCalled, waiting_so}
use Rattle.dspec_c.proofs.places.places.Given as goal

abbrev pub invariant-loop-alloc : goal.invariant-loop-alloc
invariant-loop-alloc l = record {
  called : AllCalled (arc_value l.shared) l.rest.items;
  waiting : l.places.items ++ map (waiting_so (arc_value l.shared)) l.rest.items ≡ map (waiting_so (arc_value l.shared)) l.fn.cpus.items;
}

abbrev pub decreases-loop-alloc : goal.decreases-loop-alloc
decreases-loop-alloc l = length l.rest.items
