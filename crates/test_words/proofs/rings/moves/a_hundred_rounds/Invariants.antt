use Rattle.std.proofs.Common.{◌≤◌, ◌+◌, ◌*◌, length}
use Rattle.test_words.proofs.rings.moves.a_hundred_rounds.Given as goal

abbrev pub invariant-loop-round : goal.invariant-loop-round
invariant-loop-round g l = length l.cpu.handed + 2 ≤ 2 * l.round
