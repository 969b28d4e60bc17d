use Rattle.dspec_replay.proofs.whole_calls.call_cpu.Goals as goal

pub returns-in-Trace-clause-calls : goal.returns-in-Trace-clause-calls
returns-in-Trace-clause-calls g c = rw c.in-Trace.is c.trace.ensures.does

pub returns-in-Speculate-clause-calls : goal.returns-in-Speculate-clause-calls
returns-in-Speculate-clause-calls g c = rw c.in-Speculate.is c.speculate.ensures.does
