-- What the ranges of a configuration give.
use Rattle.std.proofs.Common.{◌≡◌, ℕ, ◌≤◌, Bool, true, false, not, Option, Some, None, if◌then◌else◌, refl, arith}
use Rattle.std.proofs.lemmas.Bool.Decides.{nat_tests}
use Rattle.std.specs.Prelude.{nat_le}
use Rattle.dspec_deeds.specs.{Words.is_between, Words.start_fault, declared.config.Config.Config, declared.config.StartFault.StartFault, declared.config.StartFault.TheVariants.Cpus}
use Rattle.dspec_deeds.proofs.TestLemmas.{and_tells}

passed : (b : Bool) (x : StartFault) (rest : Option StartFault) → (if not b then Some x else rest) ≡ None → (b ≡ true) × (rest ≡ None)
passed true x rest e = (refl, e)
passed false x rest e = absurd (cc (e))

in_between_end : (low high n : ℕ) → is_between low high n ≡ true → n ≤ high
in_between_end low high n e = let both = and_tells (nat_le low n) (nat_le n high) e in let b = both.1 in grind (arith, nat_tests)

-- a session that starts has a CPU and a speculation
pub set_up : (k : Config) → start_fault k ≡ None → (1 ≤ k.cpus) × (1 ≤ k.nspec)
set_up k h1 = grind arith

-- and 64 CPUs at most
pub most_cpus : (k : Config) → start_fault k ≡ None → k.cpus ≤ 64
most_cpus k e = in_between_end 1 64 k.cpus (passed (is_between 1 64 k.cpus) Cpus _ e).0
