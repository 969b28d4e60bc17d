use Rattle.std.proofs.Common.{◌≡◌, ◌≤◌, ◌+◌, length}
use Rattle.test_words.proofs.rings.moves.send_back.Given as goal

abbrev pub invariant-loop-number : goal.invariant-loop-number
invariant-loop-number g l =
    (length l.cpu.handed + 1 ≡ l.number) × (length l.cpu.handed ≤ 2) × (l.cpu.pair ≡ l.initial.cpu.pair)
    × (l.consumer.pair ≡ l.initial.consumer.pair)
