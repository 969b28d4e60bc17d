use Rattle.dspec_interleaving.proofs.OwnAnswersPlay.{played_reads, played_wears}
use Rattle.dspec_interleaving.proofs.laws.schedule_answers.Goals as goal

pub returns-clause-read_off : goal.returns-clause-read_off
returns-clause-read_off c = played_reads

pub returns-clause-worn : goal.returns-clause-worn
returns-clause-worn c = played_wears
