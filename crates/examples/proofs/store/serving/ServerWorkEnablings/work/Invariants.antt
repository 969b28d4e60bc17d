-- It is the same lane.
use Rattle.std.proofs.Common.{◌≡◌}
use Rattle.dspec.specs.Lanes.{place_of}
use Rattle.examples.proofs.store.serving.ServerWorkEnablings.work.Given as goal

abbrev pub invariant-loop-round : goal.invariant-loop-round
invariant-loop-round l = place_of l.lane ≡ place_of l.fn.lane
