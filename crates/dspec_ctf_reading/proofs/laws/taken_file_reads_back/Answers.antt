use Rattle.dspec_ctf_reading.specs.Words.{names_by}
use Rattle.dspec_ctf_reading.proofs.Timed.{taken-back}
use Rattle.dspec_ctf_reading.proofs.laws.taken_file_reads_back.Goals as goal

pub returns : goal.returns
returns c = λ e names uuid cpu batches long small of_batches. taken-back (names_by names) e uuid cpu long small batches of_batches
