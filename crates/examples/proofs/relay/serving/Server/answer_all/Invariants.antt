-- It is the same lane.
use Rattle.std.proofs.Common.{◌≡◌}
use Rattle.dspec.specs.Lanes.{place_of}
use Rattle.examples.proofs.relay.serving.Server.answer_all.Given as goal

abbrev pub invariant-loop-request : goal.invariant-loop-request
invariant-loop-request l = place_of l.lane ≡ place_of l.fn.lane
