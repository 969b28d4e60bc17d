use Rattle.dspec_paths.proofs.Balances.{adopts}
use Rattle.dspec_paths.proofs.count_laws.adopting_balances.Goals as goal

pub returns : goal.returns
returns c = adopts
