-- Cited by calls. What a closed session leaves.
use Prim.Native.Nat.{zero, suc}
use Rattle.std.specs.Prelude.{ℕ, ◌≡◌, ◌<◌, List, [], ◌∷◌, ◌++◌, map, Bool, true, false, if◌then◌else◌, Option, Some}
use Rattle.dspec_deeds.specs.{Fates.waiting, Fates.fate, History.verdict, History.is_undecided, History.scan, History.owed, History.present, History.word_at, History.ack, Legal.IsAllowed}
use Rattle.dspec_deeds.specs.{Own.stream, Reports.report, Settling.settle_fate, Words.Outside.Shape, Words.Outside.Record, Words.Outside.Speculation, Words.Outside.settle_at, Words.Outside.Act}
use Rattle.dspec_deeds.specs.{Words.Outside.Granted, declared.config.Config.Config, declared.deed.Deed.Deed, declared.deed.Deed.TheVariants.Settle, declared.report.Report.Report}

-- a session can close: its list is legal, no call of speculation is under way, and no release is owed
pub record CanClose (shape : ℕ → Option Shape) (k : Config) (h : List Deed) : Type 0 where
  pub legal : IsAllowed shape k h
  pub rests : owed h ≡ 0
  pub idle : (c : ℕ) → c < k.cpus → scan k c h ≡ 0

abbrev pub is_granted : Act → Bool
is_granted Granted = true
is_granted act = false

-- the close: what each CPU has still to settle, CPU by CPU and slot by slot upwards
module _ (shape : ℕ → Option Shape) (k : Config) where
  abbrev pub closed_slot : ℕ → ℕ → List Deed → List Deed
  closed_slot c s h =
      if is_granted (settle_at (word_at s h) (ack c s h)) then Settle c (present s h) (settle_fate shape k c h (present s h) (word_at s h).code) ∷ h
      else h

  -- the first n slots of a CPU
  abbrev pub closed_slots : ℕ → ℕ → List Deed → List Deed
  closed_slots c zero h = h
  closed_slots c (suc n) h = closed_slot c (suc n) (closed_slots c n h)

  -- the first n CPUs
  abbrev pub closed_cpus : ℕ → List Deed → List Deed
  closed_cpus zero h = h
  closed_cpus (suc c) h = closed_slots c k.nspec (closed_cpus c h)

  -- the list at the close
  abbrev pub closing : List Deed → List Deed
  closing h = closed_cpus k.cpus h

-- a CPU's record that waits does so for a speculation that is undecided
abbrev pub WaitsUndecided : Config → List Deed → Type 0
WaitsUndecided k h = (c j : ℕ) (id : Speculation) → c < k.cpus → fate c j h ≡ Some (waiting id) → is_undecided (verdict id h) ≡ true

abbrev pub numbers_below : ℕ → List ℕ
numbers_below zero = []
numbers_below (suc n) = numbers_below n ++ n ∷ []

-- the CPUs of a session, in order
abbrev pub cpus : Config → List ℕ
cpus k = numbers_below k.cpus

-- the accepted records of each CPU
abbrev pub streams : Config → List Deed → List (List Record)
streams k h = map (λ c. stream c h) (cpus k)

-- the report of each CPU, of whose calls so many were answered Worn
abbrev pub reports : Config → (ℕ → ℕ) → List Deed → List Report
reports k worn h = map (λ c. report k c (worn c) h) (cpus k)
