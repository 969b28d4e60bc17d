use Rattle.dspec_deeds.proofs.WholeLists.{drops_add_up}
use Rattle.dspec_deeds.proofs.rules.batch_drops.Goals as goal

pub returns : goal.returns
returns c k cpu worn h = drops_add_up cpu h
