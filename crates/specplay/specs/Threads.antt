-- Cited by calls. What a failed demonstration is told as.
use Rattle.std.specs.Prelude.{ℕ}
use Rattle.specplay.specs.Words.Outside.{DemoFault}
use Rattle.specplay.specs.declared.threads.ThreadsFault.{ThreadsFault, TheVariants.GateShut, TheVariants.Memory, TheVariants.Write}
use Rattle.dspec_session.specs.declared.demonstration.DemoFault.TheVariants as demo

-- a thread that can't be made, and a session that can't start, want memory
abbrev pub threads_fault_of : DemoFault → ThreadsFault
threads_fault_of (demo.Start fault) = Memory
threads_fault_of demo.GateShut = GateShut
threads_fault_of demo.Spawn = Memory

-- the exit status that tells of a fault
abbrev pub status_of_threads : ThreadsFault → ℕ
status_of_threads GateShut = 1
status_of_threads Memory = 2
status_of_threads Write = 3
