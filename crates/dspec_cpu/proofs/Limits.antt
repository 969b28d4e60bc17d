-- What the ranges of a configuration give.
use Rattle.std.proofs.Common.{◌≡◌, ℕ, ◌<◌, ◌≤◌, ◌%◌, ◌^◌, ◌==◌, Bool, true, false, not, Option, Some, None, if◌then◌else◌, refl, arith}
use Rattle.std.proofs.lemmas.Bool.Decides.{nat_tests}
use Rattle.std.specs.Prelude.{nat_le}
use Rattle.dspec_cpu.specs.Words.{Config, StartFault, is_between, is_size, start_fault, count_of, HasRoom, IsRoomy, DecideFate, Copied, Counts}
use Rattle.dspec_deeds.proofs.TestLemmas.{and_tells, same_number}

pub record Within (low high n : ℕ) : Type 0 where
  pub least : low ≤ n
  pub most : n ≤ high

pub record IsSize (n : ℕ) : Type 0 where
  pub within : Within 8 1048576 n
  pub whole : n % 8 ≡ 0

pub record Limits (k : Config) : Type 0 where
  pub cpus : Within 1 64 k.cpus
  pub specs : Within 1 63 k.nspec
  pub principal : IsSize k.bufsize
  pub speculative : IsSize k.specsize
  pub issues : k.max_issues ≤ 2 ^ 57
  pub calls : k.max_calls ≤ 2 ^ 62

passed : (b : Bool) (x : StartFault) (rest : Option StartFault) → (if not b then Some x else rest) ≡ None → (b ≡ true) × (rest ≡ None)
passed true x rest e = (refl, e)
passed false x rest e = absurd (cc (e))

between : (low high n : ℕ) → is_between low high n ≡ true → Within low high n
between low high n e = let both = and_tells (nat_le low n) (nat_le n high) e in (let a = both.0 in let b = both.1 in record { least = grind (arith, nat_tests); most = grind (arith, nat_tests) })

sized : (n : ℕ) → is_size n ≡ true → IsSize n
sized n e = let both = and_tells (is_between 8 1048576 n) (n % 8 == 0) e in record { within = between 8 1048576 n both.0; whole = same_number (n % 8) 0 both.1 }

pub limits : (k : Config) → start_fault k ≡ None → Limits k
limits k e = grind (arith, nat_tests, passed, between, sized)

-- counts that have room for a call more have room for its decision
pub has_room : (n : Counts) (f : DecideFate) → IsRoomy n → count_of f < 2 ^ 32 → HasRoom f n
has_room n (Copied m) roomy few = record { accepted = omega arith; lost = omega arith; discarded = omega arith; drops = omega arith; stopped = omega arith }
has_room n f roomy few = record { accepted = omega arith; lost = omega arith; discarded = omega arith; drops = omega arith; stopped = omega arith }
