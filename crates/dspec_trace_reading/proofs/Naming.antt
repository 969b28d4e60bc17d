-- Each CPU has a file of its own, and none is the metadata.
use Rattle.std.proofs.{Common.◌≢◌, Common.◌<◌, Common.ℕ, Common.List, Common.[], Common.ap, Common.arith, Common.drop, Common.codes, lemmas.Bool.Decides.nat_tests, lemmas.Fmt.decimal_injective}
use Rattle.dspec_trace_reading.specs.Words.{cpu_name}

pub names_differ : (a b : ℕ) → a < 64 → b < 64 → a ≢ b → cpu_name a ≢ cpu_name b
names_differ a b few other apart e = apart (decimal_injective a b (omega (arith, few)) (omega (arith, other)) (ap (λ (xs : List ℕ). drop 4 xs) e))

pub not_metadata : (a : ℕ) → cpu_name a ≢ codes "metadata"
not_metadata a = grind (arith, nat_tests)

-- each has a name
pub cpu_named : (a : ℕ) → cpu_name a ≢ []
cpu_named a = grind (arith, nat_tests)

pub metadata_named : codes "metadata" ≢ []
metadata_named = grind (arith, nat_tests)
