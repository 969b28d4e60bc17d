-- Cited by calls. What a schedule in memory holds, and how the faults of reading it and of its play are told.
use Rattle.std.specs.Prelude.{◌≡◌, ℕ, List, slice_index_or, Result, Err}
use Rattle.dspec_schedule.specs.Reading.{Plan}
use Rattle.dspec_schedule.specs.Words.Outside.{PlayFault, setup, no_such_actor, busy, idle_step, bad_record, play_memory}
use Rattle.dspec_schedule.specs.declared.fault.LineKind.{LineKind, TheVariants.ConfigRefused, TheVariants.NoSuchActor, TheVariants.Busy, TheVariants.IdleStep, TheVariants.BadRecord}
use Rattle.dspec_schedule.specs.declared.fault.ScheduleFault.{ScheduleFault, TheVariants.Line, TheVariants.Memory}
use Rattle.dspec_schedule.specs.declared.schedule.Schedule.{Schedule}

-- what a schedule in memory holds
abbrev pub plan_of : Schedule → Plan
plan_of s = record {
  config = s.config;
  config_line = s.config_line;
  named_header = s.named_header;
  is_policy_named = s.is_policy_named;
  enablings = s.enablings;
  turns = s.turns.items;
  lines = s.lines.items;
}

-- a fault of reading is out of memory, or the one that the text has
abbrev pub IsReadingFault : {A : Type 0} → Result A (ℕ × LineKind) → ScheduleFault → Type 0
IsReadingFault read (Line line kind) = read ≡ Err (line, kind)
IsReadingFault read Memory = Unit {0}

-- a play's fault as it is told: at the line of the turn, among the lines of all turns, or at the configuration's
abbrev pub fault_as_told : ℕ → List ℕ → PlayFault → ScheduleFault
fault_as_told config_line lines (setup fault) = Line config_line (ConfigRefused fault)
fault_as_told config_line lines (no_such_actor turn) = Line (slice_index_or lines turn config_line) NoSuchActor
fault_as_told config_line lines (busy turn) = Line (slice_index_or lines turn config_line) Busy
fault_as_told config_line lines (idle_step turn) = Line (slice_index_or lines turn config_line) IdleStep
fault_as_told config_line lines (bad_record turn) = Line (slice_index_or lines turn config_line) BadRecord
fault_as_told config_line lines play_memory = Memory
