-- It is the same lane.
use Rattle.std.proofs.Common.{◌≡◌}
use Rattle.test_works.specs.Words.{place_of}
use Rattle.test_works.proofs.serving_on.walk.Given as goal

abbrev pub invariant-loop : goal.invariant-loop
invariant-loop l = place_of l.lane ≡ place_of l.fn.lane
