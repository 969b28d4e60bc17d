use Rattle.std.proofs.Common.{◌≡◌, ◌≤◌, ◌+◌, ◌*◌, ◌++◌, take}
use Rattle.dspec_record.specs.Words.{with_low, bytes_of_words}
use Rattle.dspec_record.proofs.laid_out.put_packed.Given as goal

-- the words so far stand after what stood there
abbrev pub invariant-loop-i : goal.invariant-loop-i
invariant-loop-i l = (1 ≤ l.i) × (take (l.at + 8 * l.i) l.out ≡ take l.at l.initial.out ++ bytes_of_words (take l.i (with_low l.low l.words)))
