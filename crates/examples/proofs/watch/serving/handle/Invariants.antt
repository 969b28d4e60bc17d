-- It is the same lane, and since the path was opened records were offered to it alone.
use Rattle.std.proofs.Common.{◌≡◌}
use Rattle.dspec_deeds.specs.FateAnswers.{id_given}
use Rattle.dspec_cpu.specs.Called.{called, with_speculation}
use Rattle.dspec.specs.Lanes.{place_of}
use Rattle.examples.specs.WatchServing.{OffersAlone}
use Rattle.examples.proofs.watch.serving.handle.Given as goal

abbrev pub invariant-loop-place : goal.invariant-loop-place
invariant-loop-place l = (place_of l.lane ≡ place_of l.fn.lane)
    × OffersAlone (id_given l.path.opening) (with_speculation l.path.opening (called l.fn.lane.cpu.now)) (called l.lane.cpu.now)
