use Rattle.std.proofs.Common.{arith}
use Rattle.dspec_interleaving.specs.Words.{op_bound, consumer_bound}
use Rattle.dspec_interleaving.proofs.WholeCalls.{cpu_whole, consumer_whole}
use Rattle.dspec_interleaving.proofs.laws.whole_calls.Goals as goal

pub returns-clause-cpu : goal.returns-clause-cpu
returns-clause-cpu c shape st cpu o ok lt idle = cpu_whole shape st ok cpu o (op_bound st.config o) lt idle (omega arith)

pub returns-clause-consumer : goal.returns-clause-consumer
returns-clause-consumer c shape st o ok apart = consumer_whole shape st ok o (consumer_bound st.config o) apart (omega arith)
