use Rattle.std.proofs.Common.{◌≡◌}
use Rattle.test_words.proofs.rings.crossing.take_all.Given as goal

abbrev pub invariant-loop-number : goal.invariant-loop-number
invariant-loop-number g l = l.end.pair ≡ l.initial.end.pair
