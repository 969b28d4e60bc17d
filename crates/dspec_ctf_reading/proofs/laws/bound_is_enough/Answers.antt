use Rattle.std.proofs.Common.{length, arith}
use Rattle.dspec_ctf_reading.proofs.Bounds.{events-bound, packets-bound}
use Rattle.dspec_ctf_reading.proofs.laws.bound_is_enough.Goals as goal

pub returns-clause-events : goal.returns-clause-events
returns-clause-events c = λ layout most bytes few. events-bound layout most (length bytes) bytes few (omega arith)

pub returns-clause-packets : goal.returns-clause-packets
returns-clause-packets c = λ layout most bytes few. packets-bound layout most (length bytes) bytes few (omega arith)
