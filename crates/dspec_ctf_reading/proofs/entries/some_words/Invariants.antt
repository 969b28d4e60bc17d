use Rattle.std.proofs.Common.{◌≡◌, map, replicate}
use Rattle.dspec_ctf_reading.specs.Words.{told_field}
use Rattle.dspec_ctf_reading.proofs.entries.some_words.Given as goal

abbrev pub invariant-loop : goal.invariant-loop
invariant-loop l = map told_field l.found.items ≡ replicate l.counter (record { name = l.name; width = 8 })
