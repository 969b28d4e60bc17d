-- Cited by calls. What the threads are lent of a session, and give back.
use Rattle.std.specs.Prelude.{ℕ, ◌≡◌, List, length, slice_get, Some}
use Rattle.fuzz.specs.Words.Outside.{EnabledRows, schema_of, IsCallable, identity, Cpu, Shared}

-- the CPU takes calls from those who share this, with records of this schema
pub record CanBeCalled (shared : Shared) (schema : EnabledRows) (cpu : Cpu EnabledRows) : Type 0 where
  pub callable : IsCallable shared cpu
  pub schema_is : schema_of cpu ≡ schema

-- each of them
abbrev pub AllCanBeCalled : Shared → EnabledRows → List (Cpu EnabledRows) → Type 0
AllCanBeCalled shared schema cpus = (c : ℕ) (cpu : Cpu EnabledRows) → slice_get cpus c ≡ Some cpu → CanBeCalled shared schema cpu

-- each is the CPU that it was
pub record AllWereCalled (before after : List (Cpu EnabledRows)) : Type 0 where
  pub count : length after ≡ length before
  pub each : (c : ℕ) (cpu : Cpu EnabledRows) → slice_get after c ≡ Some cpu → (was : Cpu EnabledRows) × (slice_get before c ≡ Some was) × (identity cpu ≡ identity was)
