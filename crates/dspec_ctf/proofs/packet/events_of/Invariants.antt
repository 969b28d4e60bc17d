use Rattle.std.proofs.Common.{◌≡◌, ◌++◌}
use Rattle.dspec_ctf.specs.Words.{events}
use Rattle.dspec_ctf.proofs.packet.events_of.Given as goal

abbrev pub invariant-loop-rec : goal.invariant-loop-rec
invariant-loop-rec l = record {
  can_next : (goal.iterator-loop-rec).can_next l.rec-iterator;
  is_finite : (goal.iterator-loop-rec).is_finite l.rec-iterator;
  ahead : l.body.items ++ events l.fn.enablings l.rec-iterator ≡ events l.fn.enablings l.fn.records;
}
