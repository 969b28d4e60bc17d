-- Serves proofs. What a deed of another actor leaves a CPU: all that its own deeds tell, the word of a free slot, what waits for it.
use Rattle.std.specs.Prelude.{ℕ, ◌≡◌, ◌⊎◌, true, false, List, ◌∷◌, Some, None}
use Rattle.dspec_deeds.specs.{History.issue, History.present, History.opened, History.opened_since, History.verdict, History.is_undecided, History.callers, History.solo, History.settled}
use Rattle.dspec_deeds.specs.{History.late, History.word_at, Owning.ReadsAlike, Words.Outside.is_inactive, Words.Outside.SlotState, declared.config.Config.Config, declared.deed.Deed.Deed}

-- the present speculation of the slot is decided, and is not released without the CPU
pub record WaitsFor (k : Config) (c s : ℕ) (h : List Deed) : Type 0 where
  pub given : opened (present s h) h ≡ true
  pub ruled : is_undecided (verdict (present s h) h) ≡ false
  pub waits : (solo (present s h) h ≡ Some c) ⊎ ((solo (present s h) h ≡ None) × (settled c (present s h) h ≡ false))

-- the same speculation, with the same decision and callers, so the same word
pub record StandsAsBefore (s : ℕ) (h new : List Deed) : Type 0 where
  pub issues : issue s new ≡ issue s h
  pub word : word_at s new ≡ word_at s h
  pub verdicts : verdict (present s new) new ≡ verdict (present s h) h
  pub callings : callers (present s new) new ≡ callers (present s h) h
  pub solos : solo (present s new) new ≡ solo (present s h) h

-- the slot has this word, or was given out since the CPU's last Scan
abbrev pub HasOrTaken : ℕ → ℕ → SlotState → List Deed → Type 0
HasOrTaken c s w h = (word_at s h ≡ w) ⊎ (opened_since c s h ≡ true)

-- what the CPU's call in flight rests on stands after the deed as before it
pub record LeavesStanding (k : Config) (c : ℕ) (d : Deed) (h : List Deed) : Type 0 where
  pub own : ReadsAlike k c (d ∷ h) h
  pub early : late c h ≡ false → late c (d ∷ h) ≡ false
  pub free : (s : ℕ) (w : SlotState) → is_inactive w.code ≡ true → HasOrTaken c s w h → HasOrTaken c s w (d ∷ h)
  pub waits : (s : ℕ) → WaitsFor k c s h → WaitsFor k c s (d ∷ h) × StandsAsBefore s h (d ∷ h)
