use Rattle.std.proofs.Common.{◌≡◌, length, map, ◌-◌}
use Rattle.dspec_ctf_reading.specs.Words.{read_fields, told_field}
use Rattle.dspec_ctf_reading.proofs.LoopLemmas.{found_before}
use Rattle.dspec_ctf_reading.proofs.entries.fields.Given as goal

abbrev pub invariant-loop : goal.invariant-loop
invariant-loop l = read_fields (length l.bytes) l.bytes ≡ found_before (map told_field l.found.items) (read_fields (length l.bytes - l.counter) l.rest)
