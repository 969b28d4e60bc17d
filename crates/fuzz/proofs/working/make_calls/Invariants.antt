-- It is the same CPU.
use Rattle.std.proofs.Common.{◌≡◌}
use Rattle.fuzz.specs.Words.{identity}
use Rattle.fuzz.proofs.working.make_calls.Given as goal

abbrev pub invariant-loop-round : goal.invariant-loop-round
invariant-loop-round l = identity l.cpu ≡ identity l.fn.cpu
