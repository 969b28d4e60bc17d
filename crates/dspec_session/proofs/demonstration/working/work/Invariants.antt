use Rattle.std.proofs.Common.{◌*◌, true}
use Rattle.dspec_session.specs.Words.{CpuRounds, Worked}
use Rattle.dspec_session.proofs.demonstration.working.work.Given as goal

abbrev pub invariant-loop-round : goal.invariant-loop-round
invariant-loop-round g l = Worked (4 * l.round) (2 * l.round) l.fn.cpu l.cpu true × CpuRounds l.fn.cpu l.round l.cpu
