use Rattle.std.proofs.Common.{◌≡◌, ◌++◌, take, string_bytes}
use Rattle.dspec_replay.specs.Words.{bytes_digits}
use Rattle.dspec_replay.proofs.showing.print_bytes.Given as goal

abbrev pub invariant-loop-byte : goal.invariant-loop-byte
invariant-loop-byte l =
    string_bytes l.text ≡ string_bytes l.initial.text ++ bytes_digits (take l.byte-index l.bytes)
