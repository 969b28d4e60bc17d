-- The buffers made so far are empty and of their size.
use Rattle.std.proofs.Common.{◌≡◌, []}
use Rattle.dspec_cpu_state.proofs.Starts.{Made}
use Rattle.dspec_cpu_state.proofs.cpu_state.CpuState.make.Given as goal

abbrev pub invariant-loop : goal.invariant-loop
invariant-loop g l = Made (λ b. (g.B.TraceBuffer.capacity b ≡ l.config.specsize) × ((s : g.row.S.Denot) → g.B.TraceBuffer.has b s [])) l.counter l.speculative.items
