-- What the CPUs so far have settled.
use Rattle.dspec_core.specs.Words.{ClosesTo, history, closed_cpus}
use Rattle.dspec_core.proofs.machine.Machine.close.Given as goal

abbrev pub invariant-loop-cpu : goal.invariant-loop-cpu
invariant-loop-cpu g l =
    ClosesTo g.B.TraceBuffer.has g.B.TraceBuffer.capacity g.S.Schema.shape_of l.fn.self l.self
    (closed_cpus (g.S.Schema.shape_of l.fn.self.schema) l.fn.self.config l.cpu (history l.fn.self))
