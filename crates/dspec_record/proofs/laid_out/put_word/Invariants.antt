use Rattle.std.proofs.Common.{◌≡◌, ◌+◌, ◌++◌, length, take}
use Rattle.dspec_record.proofs.laid_out.put_word.Given as goal

-- the bytes so far stand after what stood there
abbrev pub invariant-loop-i : goal.invariant-loop-i
invariant-loop-i l = (length l.out ≡ length l.initial.out) × (take (l.at + l.i) l.out ≡ take l.at l.initial.out ++ take l.i l.bytes)
