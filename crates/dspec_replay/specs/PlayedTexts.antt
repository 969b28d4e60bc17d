-- Cited by calls. What the play of a schedule is, and what is told of a text that says none, or whose play is refused.
use Rattle.std.specs.Prelude.{◌≡◌, ℕ, ◌⊎◌, Bool, List, reverse, Option, Some, None, Ok, Err}
use Rattle.dspec_replay.specs.Words.Outside.{Record, EnabledRows, FieldTable, default_fields, enabled, table_shape, table_accepts, reports, streams, IsLegal, answers_of, deeds_of, play_fault}
use Rattle.dspec_replay.specs.Words.Outside.{worn_count, Plan, header_of, schedule_of, fault_as_told, Shape, Outcome, PlayFault, ScheduleFault, Line, Memory}

-- which fields the records of a probe have: without an enabling, those of the default action
abbrev pub table_of : Option EnabledRows → FieldTable
table_of None = default_fields
table_of (Some enablings) = enabled enablings.rows

-- the shapes of the records of a schedule, after its header
abbrev pub shapes_of : Plan → ℕ → Option Shape
shapes_of p = table_shape (header_of p) (table_of p.enablings)

-- which records a schedule may have
abbrev pub accepted_of : Plan → Record → Bool
accepted_of p = table_accepts (header_of p) (table_of p.enablings)

-- why a play of the schedule is refused
abbrev pub fault_of : Plan → Option PlayFault
fault_of p = play_fault (shapes_of p) (accepted_of p) p.config p.turns

-- the outcome is what the turns of the schedule play
pub record IsPlayOf (p : Plan) (outcome : Outcome) : Type 0 where
  pub allowed : fault_of p ≡ None
  pub deeds : outcome.close.deeds ≡ reverse (deeds_of (shapes_of p) p.config p.turns)
  pub answers : outcome.answers ≡ answers_of (shapes_of p) p.config p.turns
  pub accepted : outcome.close.accepted ≡ streams p.config (reverse outcome.close.deeds)
  pub reports : outcome.close.reports ≡ reports p.config (worn_count outcome.answers) (reverse outcome.close.deeds)
  pub legal : IsLegal (shapes_of p) p.config (reverse outcome.close.deeds)

-- the text says this schedule, and the outcome is that of its play
pub record IsPlayedText (text : List ℕ) (p : Plan) (outcome : Outcome) : Type 0 where
  pub read : schedule_of text ≡ Ok p
  pub play : IsPlayOf p outcome

-- the text is a schedule whose play is refused, and the refusal is told so
pub record IsRefusedText (text : List ℕ) (told_as : ScheduleFault) : Type 0 where
  pub plan : Plan
  pub fault : PlayFault
  pub read : schedule_of text ≡ Ok plan
  pub refused : fault_of plan ≡ Some fault
  pub telling : fault_as_told plan.config_line plan.lines fault ≡ told_as

-- a line that is told is the one at which the text isn't a schedule, or the one at which its play is refused
abbrev pub IsTextFault : List ℕ → ScheduleFault → Type 0
IsTextFault text (Line line kind) = (schedule_of text ≡ Err (line, kind)) ⊎ IsRefusedText text (Line line kind)
IsTextFault text Memory = Unit {0}
