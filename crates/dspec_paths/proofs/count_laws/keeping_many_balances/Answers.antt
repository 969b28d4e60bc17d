use Rattle.dspec_paths.proofs.Balances.{keeps_many}
use Rattle.dspec_paths.proofs.count_laws.keeping_many_balances.Goals as goal

pub returns : goal.returns
returns c = keeps_many
