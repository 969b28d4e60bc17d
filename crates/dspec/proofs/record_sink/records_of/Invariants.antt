-- The records of the CPU so far, and those ahead.
use Rattle.std.proofs.Common.{◌≡◌, ◌++◌, drop}
use Rattle.std.specs.List.{enumerate_from, flat_map}
use Rattle.dspec.specs.Words.{record_of_cpu}
use Rattle.dspec.proofs.record_sink.records_of.Given as goal

abbrev pub invariant-loop-place : goal.invariant-loop-place
invariant-loop-place l =
    l.found.items ++ flat_map (record_of_cpu l.cpu l.cpus) (enumerate_from l.place (drop l.place l.records))
    ≡ flat_map (record_of_cpu l.cpu l.cpus) (enumerate_from 0 l.records)
