use Rattle.dspec_paths.proofs.Fates.{fates}
use Rattle.dspec_paths.proofs.laws.records_have_fates.Goals as goal

pub returns : goal.returns
returns c = fates
