use Rattle.std.proofs.Common.{◌≡◌}
use Rattle.test_words.proofs.rings.crossing.hand_waiting.Given as goal

abbrev pub invariant-loop : goal.invariant-loop
invariant-loop g l = (l.end.pair ≡ l.initial.end.pair) × (l.end.handed ≡ l.initial.end.handed) × (l.batch ≡ l.initial.batch)
