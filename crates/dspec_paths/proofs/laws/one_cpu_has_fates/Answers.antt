use Rattle.dspec_paths.proofs.Fates.{one_cpu_fates}
use Rattle.dspec_paths.proofs.laws.one_cpu_has_fates.Goals as goal

pub returns : goal.returns
returns c = one_cpu_fates
