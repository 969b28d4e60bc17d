-- The bytes have their room, and the text ends within it.
use Rattle.std.proofs.Common.{◌≡◌, ◌≤◌, length}
use Rattle.dspec_probe.proofs.telling.ToldTextDisplay.fmt.Given as goal

abbrev pub invariant-loop-place : goal.invariant-loop-place
invariant-loop-place g l = (length l.bytes ≡ 64) × (l.size ≤ 64)

abbrev pub invariant-loop-place-2 : goal.invariant-loop-place-2
invariant-loop-place-2 g l = (length l.bytes ≡ 64) × (l.size ≤ 64)
