-- Cited by calls. What is printed of a text's schedule that a session made.
use Rattle.std.specs.Prelude.{◌≡◌, ◌++◌, ℕ, Bool, true, false, List, map, Ok}
use Rattle.specview.specs.Words.Outside.{Header, printed_text, Plan, header_of, schedule_of, all_buffers, call_that_ended, whole_call_of, Replayed}
use Rattle.specview.specs.declared.fault.ViewFault.{ViewFault, TheVariants.Line, TheVariants.Memory, TheVariants.NoWholeCall, TheVariants.NoText}

-- a fault of a schedule's text or of its play, of memory, or one of the session's own; not that it is due
abbrev pub IsReplayFault : ViewFault → Type 0
IsReplayFault (Line line kind) = Unit {0}
IsReplayFault Memory = Unit {0}
IsReplayFault (NoWholeCall line) = Unit {0}
IsReplayFault (NoText cpu) = Unit {0}
IsReplayFault fault = ⊥

-- what is printed: what a play prints, and after it the bytes of each buffer where they are wanted
abbrev pub replay_printed : Bool → Header → Replayed → List ℕ
replay_printed true header replayed = printed_text header replayed.outcome ++ all_buffers header replayed.texts
replay_printed false header replayed = printed_text header replayed.outcome

-- the text has an answer for each turn of this schedule, in order, by its actor; no session is named that gave it
pub record IsReplayOf (text : List ℕ) (bytes : Bool) (told : List ℕ) : Type 0 where
  pub plan : Plan
  pub replayed : Replayed
  pub read : schedule_of text ≡ Ok plan
  pub answered : map call_that_ended replayed.outcome.answers ≡ map whole_call_of plan.turns
  pub printed : told ≡ replay_printed bytes (header_of plan) replayed
