-- Cited by calls. What the program tells of the faults of its parts, and its exit status.
use Rattle.std.specs.Prelude.{ℕ}
use Rattle.specview.specs.Words.Outside.{InputFault, ScheduleFault}
use Rattle.specview.specs.declared.fault.ViewFault.{ViewFault}
use Rattle.specview.specs.declared.fault.ViewFault.TheVariants.{Line, NoStamp, LateStamp, NoFrequency, GreatestFrequency, NoEvent, Memory, Read, Write, TooLong, NotEmpty, TooManyDeeds, NoWholeCall}
use Rattle.specview.specs.declared.fault.ViewFault.TheVariants.{NoText}
use Rattle.dspec_replay.specs.declared.input.InputFault.TheVariants as input
use Rattle.dspec_schedule.specs.declared.fault.ScheduleFault.TheVariants as schedule

-- the exit status that tells of a fault
abbrev pub status_of_view : ViewFault → ℕ
status_of_view (Line line kind) = 1
status_of_view NoStamp = 1
status_of_view LateStamp = 1
status_of_view (NoEvent epid) = 1
status_of_view TooManyDeeds = 1
status_of_view Memory = 2
status_of_view Read = 3
status_of_view Write = 3
status_of_view TooLong = 3
status_of_view NotEmpty = 3
status_of_view NoFrequency = 4
status_of_view GreatestFrequency = 4
status_of_view (NoWholeCall line) = 5
status_of_view (NoText cpu) = 6

abbrev pub view_of_schedule : ScheduleFault → ViewFault
view_of_schedule (schedule.Line line kind) = Line line kind
view_of_schedule schedule.Memory = Memory

abbrev pub view_of_input : InputFault → ViewFault
view_of_input input.TooLong = TooLong
view_of_input input.Read = Read
view_of_input input.Memory = Memory

-- what is told where a write fails
abbrev pub IsWritingFault : ViewFault → Type 0
IsWritingFault Memory = Unit {0}
IsWritingFault Write = Unit {0}
IsWritingFault fault = ⊥

-- what is told where a read fails
abbrev pub IsReadFault : ViewFault → Type 0
IsReadFault Memory = Unit {0}
IsReadFault Read = Unit {0}
IsReadFault fault = ⊥
