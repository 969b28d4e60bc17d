use Rattle.dspec_deeds.proofs.FullBuffers.{own_unsealed, all_unsealed}
use Rattle.dspec_deeds.proofs.filled.never_sealed.Goals as goal

pub returns-clause-own : goal.returns-clause-own
returns-clause-own c = own_unsealed

pub returns-clause-all : goal.returns-clause-all
returns-clause-all c = all_unsealed
