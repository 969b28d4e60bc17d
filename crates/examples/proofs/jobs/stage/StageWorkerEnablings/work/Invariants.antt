-- It is the same lane.
use Rattle.std.proofs.Common.{◌≡◌}
use Rattle.dspec.specs.Lanes.{place_of}
use Rattle.examples.proofs.jobs.stage.StageWorkerEnablings.work.Given as goal

abbrev pub invariant-loop-job : goal.invariant-loop-job
invariant-loop-job l = place_of l.lane ≡ place_of l.fn.lane
