-- Cited by calls. What workers did, each on the CPU of its place.
use Rattle.std.specs.Prelude.{ℕ, ◌≡◌, List, length, map, slice_get, Some}
use Rattle.dspec.specs.{Serving.ThenServed, Words.Outside.EnabledRows, Words.Outside.CallsMade, Words.Outside.called, Words.Outside.number_in, Words.Outside.schema_of, Words.Outside.identity}
use Rattle.dspec.specs.{Words.Outside.Config, Words.Outside.Cpu, declared.workers.Working.Working}

-- a configuration of so many CPUs
abbrev pub with_cpus : ℕ → Config → Config
with_cpus n k = record k { cpus = n }

-- The worker at this place, as it was before, did that on the CPU with this number, and this is the worker after it.
pub record WorkedBy {W : Type 0} (does : ℕ → W → CallsMade → W → CallsMade → Type 0) (old new : List W) (c : ℕ) (x y : CallsMade) : Type 0 where
  pub before : W
  pub was : slice_get old c ≡ Some before
  pub after : W
  pub is : slice_get new c ≡ Some after
  pub did : does c before x after y

-- a configuration of as many CPUs as there are workers
abbrev pub one_for : {W : Type 0} → List W → Config → Config
one_for workers k = with_cpus (length workers) k

-- that, and from there on the CPU made services
abbrev pub WorkedOn : {W : Type 0} → (ℕ → W → CallsMade → W → CallsMade → Type 0) → List W → List W → ℕ → CallsMade → CallsMade → Type 0
WorkedOn does old new = ThenServed (WorkedBy does old new)

-- each CPU stands at the place of its number
abbrev pub AllNumbered : {S : Type 0} → List (Cpu S) → Type 0
AllNumbered {S} cpus = (c : ℕ) (cpu : Cpu S) → slice_get cpus c ≡ Some cpu → number_in cpu ≡ c

module _ {W : Type 0} where
  -- the CPUs, and the workers, of pairs
  abbrev pub cpus_of : List (Working W) → List (Cpu EnabledRows)
  cpus_of pairs = map (λ (p : Working W). p.cpu) pairs

  abbrev pub workers_of : List (Working W) → List W
  workers_of pairs = map (λ (p : Working W). p.worker) pairs

  module _ (does : EnabledRows → ℕ → W → CallsMade → W → CallsMade → Type 0) where
    -- the CPU is the one that it was, its worker did that on it, and from there on it served
    pub record WorkedOne (old new : Working W) : Type 0 where
      pub same : identity new.cpu ≡ identity old.cpu
      pub did : ThenServed (λ c x y. does (schema_of old.cpu) c old.worker x new.worker y) (number_in old.cpu) (called old.cpu) (called new.cpu)

    -- so is each
    pub record AllWorked (old new : List (Working W)) : Type 0 where
      pub all : length new ≡ length old
      pub each : (c : ℕ) (p : Working W) → slice_get new c ≡ Some p → (was : Working W) × (slice_get old c ≡ Some was) × WorkedOne was p
