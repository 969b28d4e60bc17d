use Rattle.dspec_ctf_reading.proofs.{Allowed.all-told, Allowed.names-none, Allowed.process-shown, Headings.origin-back}
use Rattle.dspec_ctf_reading.proofs.laws.metadata_reads_back.Goals as goal

pub returns : goal.returns
returns c = λ origin form e names fine numbers.
    origin-back origin form e names numbers (process-shown origin form e names numbers fine)
    (λ place within. all-told origin form e names numbers (names-none origin form e names fine) place within)
