use Rattle.std.proofs.Common.{◌≡◌, ◌≤◌, length}
use Rattle.test_words.proofs.rings.moves.send.Given as goal

abbrev pub invariant-loop-number : goal.invariant-loop-number
invariant-loop-number g l = (length l.cpu.handed ≤ l.number) × (l.cpu.pair ≡ l.initial.cpu.pair)
