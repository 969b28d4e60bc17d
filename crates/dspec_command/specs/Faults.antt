-- Serves proofs. What is told of a program's faults, and by which exit status.
use Rattle.std.specs.{Prelude.◌≡◌, Prelude.◌≢◌, Prelude.ℕ, Prelude.Bool, Prelude.true, Prelude.false, Prelude.List, Prelude.Result, Prelude.Ok, Prelude.Err, Process.exit_status}
use Rattle.std.specs.{declared.io.Error.Error, declared.io.ErrorKind.ErrorKind, declared.io.ErrorKind.TheVariants.OutOfMemory, declared.process.ExitCode.ExitCode}
use Rattle.clap.specs.declared.error.kind.ErrorKind.{ErrorKind as Mistake}
use Rattle.clap.specs.declared.error.kind.ErrorKind.TheVariants as mistake
use Rattle.dspec_command.specs.declared.fault.CommandFault.{CommandFault, TheVariants.Usage, TheVariants.NotText, TheVariants.Memory, TheVariants.Device}

-- the exit status that tells of a fault
abbrev pub status_of_command : CommandFault → ℕ
status_of_command (Usage text) = 4
status_of_command NotText = 4
status_of_command Memory = 2
status_of_command (Device name reason) = 3

-- what is told where the words can't be read, by the kind of the system's fault
abbrev pub words_fault : ErrorKind → CommandFault
words_fault OutOfMemory = Memory
words_fault kind = NotText

-- one of these
abbrev pub IsWordsFault : CommandFault → Type 0
IsWordsFault NotText = Unit {0}
IsWordsFault Memory = Unit {0}
IsWordsFault fault = ⊥

-- what is told of words that aren't taken
abbrev pub IsAskFault : List ℕ → CommandFault → Type 0
IsAskFault usage (Usage text) = text.now ≡ usage
IsAskFault usage Memory = Unit {0}
IsAskFault usage fault = ⊥

-- no want of memory, and no text that is asked for
abbrev pub IsMistake : Mistake → Type 0
IsMistake kind = (kind ≢ mistake.OutOfMemory) × ((kind ≢ mistake.DisplayHelp) × (kind ≢ mistake.DisplayVersion))

-- it tells how the program is called
abbrev pub IsUsage : List ℕ → CommandFault → Type 0
IsUsage usage (Usage text) = text.now ≡ usage
IsUsage usage fault = ⊥

-- what is told of a device by this name, whose fault has this kind
abbrev pub IsDeviceFault : List ℕ → Error → ErrorKind → CommandFault → Type 0
IsDeviceFault name reason OutOfMemory fault = fault ≡ Memory
IsDeviceFault name reason kind (Device named why) = (named.now ≡ name) × (why ≡ reason)
IsDeviceFault name reason kind fault = ⊥

-- want of memory, or told by this name
abbrev pub IsOfDevice : List ℕ → CommandFault → Type 0
IsOfDevice name Memory = Unit {0}
IsOfDevice name (Device named why) = named.now ≡ name
IsOfDevice name fault = ⊥

-- the status by which a program ends: 0 where all is well, 1 where something isn't, else one that tells of the fault
abbrev pub EndsProgram : {F : Type 0} → (F → ℕ → Type 0) → Result Bool F → ExitCode → Type 0
EndsProgram ends (Ok true) code = exit_status code ≡ 0
EndsProgram ends (Ok false) code = exit_status code ≡ 1
EndsProgram ends (Err fault) code = ends fault (exit_status code)
