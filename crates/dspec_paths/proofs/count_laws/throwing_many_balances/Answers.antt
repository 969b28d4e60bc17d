use Rattle.dspec_paths.proofs.Balances.{throws_many}
use Rattle.dspec_paths.proofs.count_laws.throwing_many_balances.Goals as goal

pub returns : goal.returns
returns c = throws_many
