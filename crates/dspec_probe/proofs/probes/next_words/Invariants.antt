use Rattle.std.proofs.Common.{◌≡◌, ◌≤◌, ◌+◌, drop}
use Rattle.dspec_probe.specs.Words.{next_words}
use Rattle.dspec_probe.proofs.probes.next_words.Given as goal

abbrev pub invariant-loop-kind : goal.invariant-loop-kind
invariant-loop-kind l = record {
  so_far : l.count + next_words (drop l.kind-index l.kinds) ≡ next_words l.kinds;
  few : l.count ≤ l.kind-index;
}
