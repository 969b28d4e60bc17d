-- Serves proofs. What the threads of a session are lent, and give back.
use Rattle.std.specs.Prelude.{ℕ, ◌≡◌, List, length, slice_get, Some}
use Rattle.dspec.specs.Words.Outside.{Cpu, Shared, CallsMade, called, number_in, schema_of, IsCallable, identity}

-- each CPU can be called by those who share this
abbrev pub AllCallable : {S : Type 0} → Shared → List (Cpu S) → Type 0
AllCallable {S} shared cpus = (c : ℕ) (cpu : Cpu S) → slice_get cpus c ≡ Some cpu → IsCallable shared cpu

-- it is the one that it was, and the work did this on it
pub record Returned {S : Type 0} (does : S → ℕ → CallsMade → CallsMade → Type 0) (old new : Cpu S) : Type 0 where
  pub same : identity new ≡ identity old
  pub did : does (schema_of old) (number_in old) (called old) (called new)

-- so is each
pub record AllReturned {S : Type 0} (does : S → ℕ → CallsMade → CallsMade → Type 0) (old new : List (Cpu S)) : Type 0 where
  pub all : length new ≡ length old
  pub each : (c : ℕ) (cpu : Cpu S) → slice_get new c ≡ Some cpu → (was : Cpu S) × (slice_get old c ≡ Some was) × Returned does was cpu
