use Rattle.dspec_deeds.proofs.OwnReads.{reads, apart_bare}
use Rattle.dspec_deeds.proofs.lists.own_reads.Goals as goal

pub returns-clause-parts : goal.returns-clause-parts
returns-clause-parts c = reads

pub returns-clause-unsealed : goal.returns-clause-unsealed
returns-clause-unsealed c = apart_bare
