-- Believed. What a CPU did once its work had returned: it made services, and nothing else.
use Rattle.std.specs.Prelude.{ℕ, zero, suc, ◌≡◌}
use Rattle.dspec.specs.Words.Outside.{Served, CallsMade, WithService}

-- a service, answered somehow
abbrev pub ServedOnce : CallsMade → CallsMade → Type 0
ServedOnce x y = (answer : Served) × WithService answer x y

-- so many services, one after another
abbrev pub ServedTimes : ℕ → CallsMade → CallsMade → Type 0
ServedTimes zero x y = y ≡ x
ServedTimes (suc n) x y = (mid : CallsMade) × ServedTimes n x mid × ServedOnce mid y

-- some services, or none
pub record ServedOn (x y : CallsMade) : Type 0 where
  pub services : ℕ
  pub serves : ServedTimes services x y

-- the work did on the CPU what it says that it does, and from there on the CPU served
pub record ThenServed (does : ℕ → CallsMade → CallsMade → Type 0) (c : ℕ) (x y : CallsMade) : Type 0 where
  pub returned : CallsMade
  pub worked : does c x returned
  pub served : ServedOn returned y
