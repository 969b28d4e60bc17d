use Rattle.dspec_interleaving.proofs.{OwnAnswersPlay.played_worn, WornCounts.step_wears, WornCounts.clean_wears}
use Rattle.dspec_interleaving.proofs.laws.worn_rule.Goals as goal

pub returns-clause-cpu : goal.returns-clause-cpu
returns-clause-cpu c = step_wears

pub returns-clause-consumer : goal.returns-clause-consumer
returns-clause-consumer c = clean_wears

pub returns-clause-played : goal.returns-clause-played
returns-clause-played c = played_worn
