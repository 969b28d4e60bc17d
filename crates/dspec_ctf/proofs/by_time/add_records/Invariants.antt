use Rattle.std.proofs.Common.{◌≡◌, ◌≤◌, ◌++◌}
use Rattle.std.specs.Vec.{vec_capacity}
use Rattle.dspec_ctf.proofs.by_time.add_records.Given as goal

abbrev pub invariant-loop-rec : goal.invariant-loop-rec
invariant-loop-rec l = record {
  can_next : (goal.iterator-loop-rec).can_next l.rec-iterator;
  is_finite : (goal.iterator-loop-rec).is_finite l.rec-iterator;
  capacity : vec_capacity l.initial.recs ≤ vec_capacity l.recs;
  ahead : l.recs.items ++ l.rec-iterator ≡ l.initial.recs.items ++ l.fn.records;
}
