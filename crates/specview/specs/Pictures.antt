-- Cited by calls. Which text has a picture of its play, and why another has none.
use Rattle.std.specs.Prelude.{ℕ, ◌<◌, ◌≤◌, List, length}
use Rattle.specview.specs.{Stepping.IsStepsFault, Words.Outside.Outcome, Words.Outside.Plan, Words.Outside.IsPlayedText, declared.fault.ViewFault.ViewFault}
use Rattle.specview.specs.{declared.fault.ViewFault.TheVariants.TooManyDeeds, declared.fault.ViewFault.TheVariants.Memory}

-- a text's schedule is played, and its play has at most 2,000 deeds
pub record IsPictured (text : List ℕ) : Type 0 where
  pub plan : Plan
  pub outcome : Outcome
  pub played : IsPlayedText text plan outcome
  pub few : length outcome.close.deeds ≤ 2000

-- a text's play has more deeds than a picture shows
pub record HasTooManyDeeds (text : List ℕ) : Type 0 where
  pub plan : Plan
  pub outcome : Outcome
  pub played : IsPlayedText text plan outcome
  pub many : 2000 < length outcome.close.deeds

-- why a play of so many deeds has no picture
abbrev pub IsPlayPictureFault : ℕ → ViewFault → Type 0
IsPlayPictureFault n TooManyDeeds = 2000 < n
IsPlayPictureFault n Memory = Unit {0}
IsPlayPictureFault n fault = ⊥

-- why a text has no picture: it says no schedule, or the play of its schedule is refused or has too many deeds
abbrev pub IsPictureFault : List ℕ → ViewFault → Type 0
IsPictureFault text TooManyDeeds = HasTooManyDeeds text
IsPictureFault text fault = IsStepsFault text fault
