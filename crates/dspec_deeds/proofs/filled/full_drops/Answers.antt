use Rattle.dspec_deeds.proofs.FullBuffers.{full_counted, own_full, all_full}
use Rattle.dspec_deeds.proofs.filled.full_drops.Goals as goal

pub returns-clause-counted : goal.returns-clause-counted
returns-clause-counted c k cpu worn h = full_counted cpu h

pub returns-clause-own : goal.returns-clause-own
returns-clause-own c = own_full

pub returns-clause-all : goal.returns-clause-all
returns-clause-all c = all_full
