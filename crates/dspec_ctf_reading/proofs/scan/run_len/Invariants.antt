use Rattle.std.proofs.Common.{◌≡◌, true, take}
use Rattle.std.specs.List.{list_all}
use Rattle.dspec_ctf_reading.specs.Words.{test_of}
use Rattle.dspec_ctf_reading.proofs.scan.run_len.Given as goal

abbrev pub invariant-loop-place : goal.invariant-loop-place
invariant-loop-place l = list_all (test_of l.set) (take l.place l.bytes) ≡ true
