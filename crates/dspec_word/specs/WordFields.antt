-- Serves proofs. How a `Word` holds a slot's state: as its number.
use Rattle.std.specs.Prelude.{◌≤◌, ◌<◌, ◌/◌, ◌%◌, ◌^◌}
use Rattle.dspec_word.specs.{Code.code_of, Word.SlotState, Word.word_number, declared.word.Word.TheInside.Inside}

abbrev pub state_of_raw : Inside → SlotState
state_of_raw w = record { issue = w.raw / 8; code = code_of (w.raw % 8) }

-- the issue is at most 2 ^ 57, and the rest is the number of a code
pub record IsNumber (w : Inside) : Type 0 where
  pub issue : w.raw / 8 ≤ 2 ^ 57
  pub code : w.raw % 8 < 7

abbrev pub inside_of_word : SlotState → Inside
inside_of_word s = record { raw = word_number s }
