use Rattle.std.proofs.Common.{◌≡◌, ◌≤◌, ◌+◌, drop}
use Rattle.dspec_ctf.specs.Words.{next_in_front}
use Rattle.dspec_ctf.proofs.printing.next_in_front.Given as goal

abbrev pub invariant-loop-kind : goal.invariant-loop-kind
invariant-loop-kind l = record {
  so_far : l.next + next_in_front (drop l.kind-index l.kinds) ≡ next_in_front l.kinds;
  few : l.next ≤ l.kind-index;
}
