-- Cited by calls. What a slot's word says, and its number.
use Rattle.std.specs.Prelude.{ℕ, ◌≡◌, ◌+◌, ◌*◌, ◌^◌, ◌<◌, ◌⊎◌}
use Rattle.dspec_word.specs.{Code.code_number, declared.code.Code.Code, declared.code.Code.TheVariants.Inactive}

-- how often the slot was released, and where its present speculation stands
pub record SlotState : Type 0 where
  pub issue : ℕ
  pub code : Code

abbrev pub word_number : SlotState → ℕ
word_number w = w.issue * 8 + code_number w.code

-- a slot whose speculation of this issue is released
abbrev pub released : ℕ → SlotState
released i = record { issue = i + 1; code = Inactive }

-- a release, if the slot still owes one, leads to an issue of at most 2 ^ 57
abbrev pub CanBeReleased : SlotState → Type 0
CanBeReleased w = (w.issue < 2 ^ 57) ⊎ (w.code ≡ Inactive)

-- a slot's word moves to a greater number, of the same issue or inactive of the next
pub record Rises (from to : SlotState) : Type 0 where
  pub greater : word_number from < word_number to
  pub next : (to.issue ≡ from.issue) ⊎ (to ≡ released from.issue)
