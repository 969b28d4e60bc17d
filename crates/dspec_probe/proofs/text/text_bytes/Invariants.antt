use Rattle.std.proofs.Common.{◌≡◌, ◌++◌, drop}
use Rattle.dspec_probe.specs.Words.{before_zero}
use Rattle.dspec_probe.proofs.text.text_bytes.Given as goal

abbrev pub invariant-loop-byte : goal.invariant-loop-byte
invariant-loop-byte l = l.bytes.items ++ before_zero (drop l.byte-index l.byte-items) ≡ before_zero l.byte-items
