-- Serves proofs. What an input that keeps its name has kept.
use Rattle.std.specs.{IoError.error_kind, Prelude.◌≡◌, Prelude.ℕ, Prelude.List, Prelude.Option, Prelude.Some, Prelude.None, declared.io.Error.Error}
use Rattle.dspec_command.specs.{Faults.IsDeviceFault, declared.fault.CommandFault.CommandFault, declared.input.Input.Input}

-- an input of this name of which no read failed
abbrev pub IsUnread : {R : Type 0} → List ℕ → Input R → Type 0
IsUnread name input = (input.name.now ≡ name) × (input.reason ≡ None)

-- what is told of an input of this name, of which a read failed for this reason, or none did
abbrev pub IsToldReason : List ℕ → Option Error → Option CommandFault → Type 0
IsToldReason name None None = Unit {0}
IsToldReason name (Some reason) (Some fault) = IsDeviceFault name reason (error_kind reason) fault
IsToldReason name reason fault = ⊥

abbrev pub IsToldOfInput : {R : Type 0} → Input R → Option CommandFault → Type 0
IsToldOfInput input told = IsToldReason input.name.now input.reason told
