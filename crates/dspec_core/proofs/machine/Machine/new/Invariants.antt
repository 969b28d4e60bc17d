-- The words made so far are free, and the cpus show the empty list.
use Rattle.dspec_cpu_state.proofs.Starts.{Made}
use Rattle.dspec_core.proofs.Starts.{IsFree, HasBegun}
use Rattle.dspec_core.proofs.machine.Machine.new.Given as goal

abbrev pub invariant-loop : goal.invariant-loop
invariant-loop g l = Made IsFree l.counter l.words.items

abbrev pub invariant-loop-2 : goal.invariant-loop-2
invariant-loop-2 g l = Made (HasBegun g.B.TraceBuffer.has g.B.TraceBuffer.capacity l.config) l.counter l.cpus.items
