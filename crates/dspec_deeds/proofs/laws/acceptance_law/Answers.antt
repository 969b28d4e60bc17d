use Rattle.dspec_deeds.proofs.Headlines.{headline}
use Rattle.dspec_deeds.proofs.laws.acceptance_law.Goals as goal

pub returns : goal.returns
returns c shape k h cpu legal = (headline shape k cpu h legal.0).acceptance
