-- The sink got what was left of the CPUs below.
use Rattle.std.proofs.Common.{take}
use Rattle.dspec.specs.Words.{GotAll, rests_passed}
use Rattle.dspec.proofs.running.pass_rests.Given as goal

abbrev pub invariant-loop-cpu : goal.invariant-loop-cpu
invariant-loop-cpu g l = GotAll (g.K.Sink.gets l.schema) l.fn.sink (rests_passed 0 (take l.cpu l.closed)) l.sink
