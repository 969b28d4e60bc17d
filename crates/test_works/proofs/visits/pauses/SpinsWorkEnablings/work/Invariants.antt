-- It is the same lane.
use Rattle.std.proofs.Common.{◌≡◌}
use Rattle.test_works.specs.Words.{place_of}
use Rattle.test_works.proofs.visits.pauses.SpinsWorkEnablings.work.Given as goal

abbrev pub invariant-loop-service : goal.invariant-loop-service
invariant-loop-service l = place_of l.lane ≡ place_of l.fn.lane
