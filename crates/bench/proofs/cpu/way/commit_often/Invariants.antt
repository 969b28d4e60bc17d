use Rattle.std.proofs.Common.{◌≡◌}
use Rattle.bench.specs.Words.{identity}
use Rattle.bench.proofs.cpu.way.commit_often.Given as goal

abbrev pub invariant-loop : goal.invariant-loop
invariant-loop g l = identity l.cpu ≡ identity l.fn.cpu
