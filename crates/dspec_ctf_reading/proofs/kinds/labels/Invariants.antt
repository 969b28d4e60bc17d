use Rattle.std.proofs.Common.{◌≡◌, length, map, ◌-◌}
use Rattle.dspec_ctf_reading.specs.Words.{read_labels, told_label}
use Rattle.dspec_ctf_reading.proofs.LoopLemmas.{found_before}
use Rattle.dspec_ctf_reading.proofs.kinds.labels.Given as goal

abbrev pub invariant-loop : goal.invariant-loop
invariant-loop l = read_labels (length l.bytes) l.bytes ≡ found_before (map told_label l.found.items) (read_labels (length l.bytes - l.counter) l.rest)
