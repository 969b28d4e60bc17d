use Rattle.std.proofs.Common.{◌≡◌, ◌<◌, ℕ, length, get_or}
use Rattle.std.specs.Int.RustNames.{bit_and}
use Rattle.dspec_record.proofs.packed.masked.Given as goal

-- the words so far are masked
abbrev pub invariant-loop-i : goal.invariant-loop-i
invariant-loop-i l = (length l.kept ≡ 9) × ((k : ℕ) → k < l.i → get_or l.kept k 0 ≡ bit_and (get_or l.words k 0) (get_or l.masks k 0))
