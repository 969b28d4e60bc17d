use Rattle.dspec_paths.proofs.Balances.{discards}
use Rattle.dspec_paths.proofs.count_laws.discarding_balances.Goals as goal

pub returns : goal.returns
returns c = discards
