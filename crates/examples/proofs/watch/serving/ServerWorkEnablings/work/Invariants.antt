-- It is the same lane, on which so many requests were handled.
use Rattle.std.proofs.Common.{◌≡◌}
use Rattle.dspec_cpu.specs.Called.{called}
use Rattle.dspec_cpu.specs.Lists.{number_in}
use Rattle.dspec.specs.Lanes.{place_of}
use Rattle.examples.specs.WatchServing.{ServesRequests}
use Rattle.examples.proofs.watch.serving.ServerWorkEnablings.work.Given as goal

abbrev pub invariant-loop-round : goal.invariant-loop-round
invariant-loop-round l = (place_of l.lane ≡ place_of l.fn.lane) × ServesRequests l.self.seed (number_in l.fn.lane.cpu.now) (called l.fn.lane.cpu.now) l.round (called l.lane.cpu.now)
