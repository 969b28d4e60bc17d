-- Cited by calls. What a session does for its CPUs that are at their places: one service each, whether a CPU came home or was never handed out.
use Rattle.std.specs.Prelude.{ℕ, zero, suc, ◌≡◌, ◌+◌, List, length, Some, MatchOption, slice_get, slice_set}
use Rattle.dspec_c.specs.{Homes.AtHome, Homes.Came, Homes.CpuStay, Statuses.bad_handle, Whole.Going, Words.Outside.Cpu, Words.Outside.EnabledRows, Words.Outside.Has, Words.Outside.identity}
use Rattle.dspec_c.specs.{Words.Outside.Served, Words.Outside.ServesOnce, declared.held.HandleValue.HandleValue}
use Rattle.dspec_c.specs.declared.held.HandleValue.TheVariants as held

-- `Cpu::service`
pub record ServicedSo (a : Served) (old new : Cpu EnabledRows) : Type 0 where
  pub same : identity new ≡ identity old
  pub does : ServesOnce Has a old new

-- a CPU at home was served once, which settled so many speculations
pub record ServedAtHome (settled : ℕ) (old new : AtHome) : Type 0 where
  pub told : Served
  pub counted : settled ≡ told.settled
  pub cpu : ServicedSo told old.cpu new.cpu
  pub refused : new.refused ≡ old.refused

-- so was the one that is at this place, of which nothing else changed
pub record ServedThere (settled : ℕ) (home : AtHome) (old new : CpuStay) : Type 0 where
  pub first : new.first ≡ old.first
  pub waits : new.waits ≡ old.waits
  pub left : AtHome
  pub is : new.inside ≡ Some left
  pub served : ServedAtHome settled home left

-- where the CPU isn't at this place nothing was settled and nothing changed
abbrev pub ServedIfThere : ℕ → CpuStay → CpuStay → Type 0
ServedIfThere settled old new = MatchOption old.inside ((settled ≡ 0) × (new ≡ old)) (λ home. ServedThere settled home old new)

-- a look shows whether it is there
pub record IsTended (settled : ℕ) (old new : CpuStay) : Type 0 where
  pub looked : CpuStay
  pub came : Came old looked
  pub served : ServedIfThere settled looked new

-- the place of this number was tended, and no other
pub record TendsOne (c settled : ℕ) (old new : List CpuStay) : Type 0 where
  pub was : CpuStay
  pub is : CpuStay
  pub there : slice_get old c ≡ Some was
  pub tended : IsTended settled was is
  pub all : new ≡ slice_set old c is

-- the first places, so many, were tended one after another, which settled so many in all
abbrev pub AreTended : ℕ → ℕ → List CpuStay → List CpuStay → Type 0
AreTended zero settled old new = (settled ≡ 0) × (new ≡ old)
AreTended (suc c) settled old new = (mid : List CpuStay) × (before : ℕ) × (here : ℕ) × AreTended c before old mid × TendsOne c here mid new × (settled ≡ before + here)

-- all of a session's were, and nothing else of it changed
pub record IsTendedWhole (settled : ℕ) (old new : Going) : Type 0 where
  pub shared : new.shared ≡ old.shared
  pub cpus : new.cpus ≡ old.cpus
  pub consumer : new.consumer ≡ old.consumer
  pub places : AreTended (length old.places) settled old.places new.places

-- on another handle nothing is done, and nothing told
abbrev pub TendAnswers : HandleValue → ℕ → ℕ → ℕ → HandleValue → Type 0
TendAnswers (held.Session old) status before settled now = (new : Going) × (now ≡ held.Session new) × (status ≡ 0) × IsTendedWhole settled old new
TendAnswers h status before settled now = (status ≡ bad_handle) × (now ≡ h) × (settled ≡ before)
