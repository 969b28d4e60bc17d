use Rattle.std.proofs.Common.{◌≡◌, ◌+◌, length}
use Rattle.test_words.proofs.rings.crossing.hand_all.Given as goal

abbrev pub invariant-loop-number : goal.invariant-loop-number
invariant-loop-number g l = (length l.end.handed + 1 ≡ l.number) × (l.end.pair ≡ l.initial.end.pair)
