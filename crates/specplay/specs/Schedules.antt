-- Cited by calls. What the play of a schedule is, and what a run prints or tells of a text.
use Rattle.std.specs.Prelude.{◌≡◌, ℕ, List, Option, None, Ok}
use Rattle.specplay.specs.Words.Outside.{Outcome, IsPlayOf, IsTextFault, fault_of, printed_text, Plan, header_of, schedule_of}
use Rattle.specplay.specs.Written.{AppendsBeginning}
use Rattle.specplay.specs.declared.fault.RunFault.{RunFault, TheVariants.Line, TheVariants.Memory, TheVariants.TooLong, TheVariants.Read, TheVariants.Write}
use Rattle.dspec_schedule.specs.declared.fault.ScheduleFault.TheVariants as schedule

-- the text is a schedule, and what is printed is the outcome of its play
pub record Prints (text printed : List ℕ) : Type 0 where
  pub plan : Plan
  pub outcome : Outcome
  pub read : schedule_of text ≡ Ok plan
  pub play : IsPlayOf plan outcome
  pub whole : printed ≡ printed_text (header_of plan) outcome

-- the text is a schedule whose play is refused nowhere
pub record IsPlayed (text : List ℕ) : Type 0 where
  pub plan : Plan
  pub read : schedule_of text ≡ Ok plan
  pub allowed : fault_of plan ≡ None

-- a line that is told is the one at which the text isn't a schedule, or the one at which its play is refused; a write
-- fault is told of a play that succeeded
abbrev pub IsToldOf : List ℕ → RunFault → Type 0
IsToldOf text (Line line kind) = IsTextFault text (schedule.Line line kind)
IsToldOf text Memory = Unit {0}
IsToldOf text TooLong = Unit {0}
IsToldOf text Read = Unit {0}
IsToldOf text Write = IsPlayed text

-- what the play of the text prints was written as far as to some place
abbrev pub IsCutOff : List ℕ → Option (List ℕ) → Option (List ℕ) → Type 0
IsCutOff text old new = (printed : List ℕ) × Prints text printed × AppendsBeginning old new printed
