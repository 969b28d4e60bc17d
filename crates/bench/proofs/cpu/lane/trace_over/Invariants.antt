use Rattle.std.proofs.Common.{◌≡◌}
use Rattle.bench.specs.Words.{place_of}
use Rattle.bench.proofs.cpu.lane.trace_over.Given as goal

abbrev pub invariant-loop : goal.invariant-loop
invariant-loop g l = place_of l.lane ≡ place_of l.fn.lane
