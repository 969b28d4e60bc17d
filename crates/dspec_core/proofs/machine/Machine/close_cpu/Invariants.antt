-- What the slots so far have settled.
use Rattle.dspec_core.specs.Words.{ClosesTo, history, closed_slots}
use Rattle.dspec_core.proofs.machine.Machine.close_cpu.Given as goal

abbrev pub invariant-loop-slot : goal.invariant-loop-slot
invariant-loop-slot g l =
    ClosesTo g.B.TraceBuffer.has g.B.TraceBuffer.capacity g.S.Schema.shape_of l.fn.self l.self
    (closed_slots (g.S.Schema.shape_of l.fn.self.schema) l.fn.self.config l.cpu l.slot (history l.fn.self))
