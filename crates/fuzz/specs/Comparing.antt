-- Cited by calls. How what the player and a session told of a schedule compares.
use Rattle.std.specs.Prelude.{◌≡◌, string_bytes, None, Option}
use Rattle.fuzz.specs.Words.Outside.{IsDue, accepted_in, schedule_refusal, header_of, plan_of, SessionFault, Play, Schedule}
use Rattle.fuzz.specs.declared.comparing.ScheduleOutcome.{ScheduleOutcome, TheVariants.Printed, TheVariants.Refused, TheVariants.CantGoOn}

-- both printed the same bytes
abbrev pub IsAlike : ScheduleOutcome → ScheduleOutcome → Type 0
IsAlike (Printed x) (Printed y) = string_bytes x ≡ string_bytes y
IsAlike a b = ⊥

-- both refused it by the same fault
abbrev pub IsRefusedAlike : ScheduleOutcome → ScheduleOutcome → Type 0
IsRefusedAlike (Refused f) (Refused h) = f ≡ h
IsRefusedAlike a b = ⊥

-- why a session doesn't play a schedule, if it doesn't
abbrev pub session_refusal : Schedule → Option SessionFault
session_refusal s = schedule_refusal (accepted_in s.enablings (header_of (plan_of s))) s.config s.turns.items

-- a session that this is due of printed something only where nothing is; else it is told why it doesn't play
abbrev pub IsToldBySession : Option SessionFault → ScheduleOutcome → Type 0
IsToldBySession due (Printed x) = due ≡ None
IsToldBySession due (Refused f) = IsDue due (Play f)
IsToldBySession due (CantGoOn h) = IsDue due h
