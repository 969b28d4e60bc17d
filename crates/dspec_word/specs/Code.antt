-- Cited by calls. The codes as numbers, and the sets of codes that rules speak of.
use Rattle.std.specs.Prelude.{ℕ, zero, suc, Bool, true, false}
use Rattle.dspec_word.specs.declared.code.Code.{Code}
use Rattle.dspec_word.specs.declared.code.Code.TheVariants.{Inactive, Active, ActiveOne, ActiveMany, Committing, CommittingMany, Discarding}

abbrev pub code_number : Code → ℕ
code_number Inactive = 0
code_number Active = 1
code_number ActiveOne = 2
code_number ActiveMany = 3
code_number Committing = 4
code_number CommittingMany = 5
code_number Discarding = 6

-- the code of a number; of those above 6, which are no code's, the last
abbrev pub code_of : ℕ → Code
code_of zero = Inactive
code_of (suc zero) = Active
code_of (suc (suc zero)) = ActiveOne
code_of (suc (suc (suc zero))) = ActiveMany
code_of (suc (suc (suc (suc zero)))) = Committing
code_of (suc (suc (suc (suc (suc zero))))) = CommittingMany
code_of n = Discarding

-- nothing is open in the slot
abbrev pub is_inactive : Code → Bool
is_inactive Inactive = true
is_inactive c = false

-- the speculation was committed or discarded, and the slot isn't released yet
abbrev pub is_decided : Code → Bool
is_decided Committing = true
is_decided CommittingMany = true
is_decided Discarding = true
is_decided c = false

-- decided, and every CPU has to acknowledge before the slot is released
abbrev pub awaits : Code → Bool
awaits CommittingMany = true
awaits Discarding = true
awaits c = false
