-- Cited by calls. A path that is walked on a lane, with the clock of its steps.
use Rattle.std.specs.{Borrow.GName, Prelude.ℕ, Prelude.◌≡◌, Prelude.List, Prelude.Option, Prelude.MatchOption}
use Rattle.dspec.specs.{LaneCalls.SpeculateOn, Lanes.LanePosition, Lanes.place_of, Words.Outside.EnabledRows, Words.Outside.Record, Words.Outside.Speculation, Words.Outside.Ghosts}
use Rattle.dspec.specs.{Words.Outside.Spoken, Words.Outside.Deed, Words.Outside.Cpu, declared.handing.Handed.Handed, declared.lane.Lane.Lane, declared.steps.Steps.Steps}

-- whose lane it is and which, by which clock, and which path: no step changes it
pub record Walk (C : Type 0) : Type 0 where
  pub lane : GName
  pub place : LanePosition EnabledRows
  pub clock : C
  pub path : Handed

abbrev pub walk_of : {C : Type 0} → Steps C → Walk C
walk_of s = record { lane = s.lane.ghost_name; place = place_of s.lane.now; clock = s.clock.now; path = s.path }

-- a record was offered to a speculation with a stamp that the clock gave
abbrev pub StampedOn : {S : Type 0} {g : Ghosts S} → (Cpu S → List Deed → Type 0) → (ℕ → Type 0) → Speculation → (ℕ → Record) → Spoken → Lane S g → Lane S g → Type 0
StampedOn has stamps id stamped a old new = (stamp : ℕ) × stamps stamp × SpeculateOn has id (stamped stamp) a old new

-- by which lists each CPU has
module _ {C : Type 0} (has : Cpu EnabledRows → List Deed → Type 0) where
  -- so was one, by a step of a walk, to the walk's path
  abbrev pub WalksOn : (ℕ → Type 0) → (ℕ → Record) → Spoken → Steps C → Steps C → Type 0
  WalksOn stamps stamped a old new = StampedOn has stamps old.path.id stamped a old.lane.now new.lane.now

  -- so was one, or nothing was done
  abbrev pub TriesOn : (ℕ → Type 0) → (ℕ → Record) → Option Spoken → Steps C → Steps C → Type 0
  TriesOn stamps stamped a old new = MatchOption a (new.lane.now ≡ old.lane.now) (λ spoken. WalksOn stamps stamped spoken old new)
