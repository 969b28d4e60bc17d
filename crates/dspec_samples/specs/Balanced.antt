-- Serves proofs. Each offered record has one fate.
use Rattle.std.specs.Prelude.{◌≡◌}
use Rattle.dspec_samples.specs.Words.Outside.{Report, records_of_report}

abbrev pub IsBalanced : Report → Type 0
IsBalanced r = r.offered ≡ records_of_report r
