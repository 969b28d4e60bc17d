-- It is the same lane.
use Rattle.std.proofs.Common.{◌≡◌}
use Rattle.test_works.specs.Words.{place_of}
use Rattle.test_works.proofs.handing.Relay.settle.Given as goal

abbrev pub invariant-loop-look : goal.invariant-loop-look
invariant-loop-look l = place_of l.lane ≡ place_of l.fn.lane
