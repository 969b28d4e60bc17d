use Rattle.std.proofs.Common.{◌≡◌, ◌≤◌, ◌+◌, ◌-◌, ◌^◌, length}
use Rattle.dspec_ctf_sink.specs.Words.{capped}
use Rattle.dspec_ctf_sink.proofs.losing.count_of.Given as goal

abbrev pub invariant-loop-rec : goal.invariant-loop-rec
invariant-loop-rec l = record {
  can_next : (goal.iterator-loop-rec).can_next l._rec-iterator;
  is_finite : (goal.iterator-loop-rec).is_finite l._rec-iterator;
  within : l.count ≤ 2 ^ 64 - 1;
  counted : capped (l.count + length l._rec-iterator) ≡ capped (length l.fn.records);
}
