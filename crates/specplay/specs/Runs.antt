-- Cited by calls. What a run's faults say.
use Rattle.std.specs.Prelude.{ℕ}
use Rattle.specplay.specs.Words.Outside.{ScheduleFault, InputFault}
use Rattle.specplay.specs.declared.fault.RunFault.{RunFault, TheVariants.Line, TheVariants.Memory, TheVariants.TooLong, TheVariants.Read, TheVariants.Write}
use Rattle.dspec_schedule.specs.declared.fault.ScheduleFault.TheVariants as schedule
use Rattle.dspec_replay.specs.declared.input.InputFault.TheVariants as input

-- the exit status that tells of a fault
abbrev pub status_of : RunFault → ℕ
status_of (Line line kind) = 1
status_of Memory = 2
status_of TooLong = 3
status_of Read = 3
status_of Write = 3

-- a fault of taking the input in
abbrev pub IsInputFault : RunFault → Type 0
IsInputFault (Line line kind) = ⊥
IsInputFault Memory = Unit {0}
IsInputFault TooLong = Unit {0}
IsInputFault Read = Unit {0}
IsInputFault Write = ⊥

-- a fault of the schedule as a run tells it
abbrev pub run_fault_of : ScheduleFault → RunFault
run_fault_of (schedule.Line line kind) = Line line kind
run_fault_of schedule.Memory = Memory

-- a fault of the input as a run tells it
abbrev pub run_fault_of_input : InputFault → RunFault
run_fault_of_input input.TooLong = TooLong
run_fault_of_input input.Read = Read
run_fault_of_input input.Memory = Memory
