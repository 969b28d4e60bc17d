-- The sink was told of the CPUs below.
use Rattle.std.proofs.Common.{take}
use Rattle.dspec_ctf_sink.specs.Words.{IsBare, TellsUntold}
use Rattle.dspec_ctf_sink.proofs.ending.Untold.tell.Given as goal

abbrev pub invariant-loop-cpu : goal.invariant-loop-cpu
invariant-loop-cpu g l = TellsUntold (g.K.Sink.gets l.schema) (take l.cpu l.closed) l.fn.sink l.sink × IsBare l.batch
