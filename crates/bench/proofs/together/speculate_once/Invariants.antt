use Rattle.std.proofs.Common.{◌≡◌}
use Rattle.bench.specs.Words.{place_of}
use Rattle.bench.proofs.together.speculate_once.Given as goal

abbrev pub invariant-loop : goal.invariant-loop
invariant-loop l = place_of l.lane ≡ place_of l.fn.lane
