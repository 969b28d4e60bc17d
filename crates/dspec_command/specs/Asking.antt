-- Serves proofs. What is answered to words, by the kinds of error that the command has for them.
use Rattle.std.specs.Prelude.{◌≡◌, ◌⊎◌, ℕ, List, [], Result, Ok, Err}
use Rattle.clap.specs.{Kinds.IsAmong, Kinds.Kinds, declared.error.kind.ErrorKind.ErrorKind as Mistake}
use Rattle.clap.specs.declared.error.kind.ErrorKind.TheVariants as mistake
use Rattle.dspec_command.specs.{Faults.IsMistake, declared.asking.ParsedCommand.ParsedCommand, declared.asking.ParsedCommand.TheVariants.Found, declared.asking.ParsedCommand.TheVariants.Text}
use Rattle.dspec_command.specs.{declared.fault.CommandFault.CommandFault, declared.fault.CommandFault.TheVariants.Usage, declared.fault.CommandFault.TheVariants.Memory}

-- what is answered to an error of this kind: a text that is asked for, want of memory, or how the program is called
abbrev pub IsToldAs : List ℕ → Mistake → Result ParsedCommand CommandFault → Type 0
IsToldAs usage kind (Ok (Text text)) = (kind ≡ mistake.DisplayHelp) ⊎ (kind ≡ mistake.DisplayVersion)
IsToldAs usage kind (Ok (Found found)) = ⊥
IsToldAs usage kind (Err Memory) = Unit {0}
IsToldAs usage kind (Err (Usage text)) = IsMistake kind × (text.now ≡ usage)
IsToldAs usage kind (Err fault) = ⊥

-- words are taken only where the command has no error for them; else what is told is of one of the kinds, or memory ran out
pub record IsToldOfOne (usage : List ℕ) (kinds : Kinds) (answer : Result ParsedCommand CommandFault) : Type 0 where
  pub kind : Mistake
  pub among : (kind ≡ mistake.OutOfMemory) ⊎ IsAmong kind kinds
  pub told : IsToldAs usage kind answer

abbrev pub IsAnswerTo : List ℕ → Kinds → Result ParsedCommand CommandFault → Type 0
IsAnswerTo usage kinds (Ok (Found found)) = kinds ≡ []
IsAnswerTo usage kinds answer = IsToldOfOne usage kinds answer
