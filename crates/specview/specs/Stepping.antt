-- Cited by calls. Which text has a play whose steps are told, and why another has none.
use Rattle.std.specs.Prelude.{◌≡◌, ℕ, List, None, Ok}
use Rattle.specview.specs.Words.Outside.{Plan, schedule_of, IsTextFault, fault_of}
use Rattle.specview.specs.declared.fault.ViewFault.{ViewFault, TheVariants.Line, TheVariants.Memory}
use Rattle.dspec_schedule.specs.declared.fault.ScheduleFault.TheVariants as schedule

-- the text says a schedule, whose play nothing refuses
pub record HasSteps (text : List ℕ) : Type 0 where
  pub plan : Plan
  pub read : schedule_of text ≡ Ok plan
  pub allowed : fault_of plan ≡ None

-- why no steps are told: the text says no schedule, or its play is refused
abbrev pub IsStepsFault : List ℕ → ViewFault → Type 0
IsStepsFault text (Line line kind) = IsTextFault text (schedule.Line line kind)
IsStepsFault text Memory = Unit {0}
IsStepsFault text fault = ⊥
