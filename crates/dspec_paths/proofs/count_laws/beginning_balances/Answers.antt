use Rattle.dspec_paths.proofs.Balances.{begins}
use Rattle.dspec_paths.proofs.count_laws.beginning_balances.Goals as goal

pub returns : goal.returns
returns c = begins
