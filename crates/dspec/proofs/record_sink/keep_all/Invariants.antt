-- The records that came, and those that are ahead.
use Rattle.std.proofs.Common.{◌≡◌, ◌++◌, length, replicate}
use Rattle.dspec.proofs.record_sink.keep_all.Given as goal

abbrev pub invariant-loop-rec : goal.invariant-loop-rec
invariant-loop-rec l = record {
  can_next : (goal.iterator-loop-rec).can_next l.rec-iterator;
  is_finite : (goal.iterator-loop-rec).is_finite l.rec-iterator;
  ahead : l.kept.items ++ l.rec-iterator ≡ l.initial.kept.items ++ l.fn.came;
  cpus_ahead : l.cpus.items ++ replicate (length l.rec-iterator) l.cpu ≡ l.initial.cpus.items ++ replicate (length l.fn.came) l.cpu;
}
