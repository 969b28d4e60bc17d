-- It is the same lane.
use Rattle.std.proofs.Common.{◌≡◌}
use Rattle.test_works.specs.Words.{place_of}
use Rattle.test_works.proofs.workers.CounterWorkerEnablings.work.Given as goal

abbrev pub invariant-loop-number : goal.invariant-loop-number
invariant-loop-number l = place_of l.lane ≡ place_of l.fn.lane
