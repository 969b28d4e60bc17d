use Rattle.dspec_deeds.proofs.FullBuffers.{trace_refused, commit_refused, settle_refused}
use Rattle.dspec_deeds.proofs.filled.refused_closes.Goals as goal

pub returns-clause-traced : goal.returns-clause-traced
returns-clause-traced c shape k cpu r f h fitting = trace_refused shape k cpu h r f fitting.1

pub returns-clause-committed : goal.returns-clause-committed
returns-clause-committed c shape k cpu id f h fitting = commit_refused shape k cpu h id f fitting.1

pub returns-clause-settled : goal.returns-clause-settled
returns-clause-settled c shape k cpu id f h fitting = settle_refused shape k cpu h id f fitting.1
