use Rattle.dspec_paths.proofs.Balances.{loses}
use Rattle.dspec_paths.proofs.count_laws.losing_balances.Goals as goal

pub returns : goal.returns
returns c = loses
