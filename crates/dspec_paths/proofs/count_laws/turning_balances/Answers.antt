use Rattle.dspec_paths.proofs.Balances.{turns}
use Rattle.dspec_paths.proofs.count_laws.turning_balances.Goals as goal

pub returns : goal.returns
returns c = turns
