use Rattle.std.proofs.Common.{◌≡◌, ◌++◌, drop}
use Rattle.std.specs.{Int.w64, Int.to_le_bytes, List.flat_map}
use Rattle.dspec_probe.proofs.text.all_bytes.Given as goal

abbrev pub invariant-loop-word : goal.invariant-loop-word
invariant-loop-word l = l.bytes.items ++ flat_map (to_le_bytes w64) (drop l.word-index l.words) ≡ flat_map (to_le_bytes w64) l.words
