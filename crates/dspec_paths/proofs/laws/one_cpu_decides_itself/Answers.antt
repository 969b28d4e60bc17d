use Rattle.dspec_paths.proofs.OneCpu.{decides_itself}
use Rattle.dspec_paths.proofs.laws.one_cpu_decides_itself.Goals as goal

pub returns : goal.returns
returns c = decides_itself
