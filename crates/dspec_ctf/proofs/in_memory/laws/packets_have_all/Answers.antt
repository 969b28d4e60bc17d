use Rattle.dspec_ctf.proofs.InMemory.Whole.{have_all}
use Rattle.dspec_ctf.proofs.in_memory.laws.packets_have_all.Goals as goal

pub returns : goal.returns
returns c = have_all
