-- Serves proofs. The number that a `Word` holds follows from the state that it is.
use Rattle.std.proofs.Common.{◌≡◌, ◌<◌, ◌%◌, ◌∙◌, ℕ, zero, suc, refl, sym, ap, arith}
use Rattle.dspec_word.specs.{Code.code_number, Code.code_of, Word.SlotState, Word.word_number, WordFields.state_of_raw, WordFields.inside_of_word, WordFields.IsNumber}
use Rattle.dspec_word.specs.{declared.word.Word.TheInside.Inside}

pub code_number-code_of : (n : ℕ) → n < 7 → code_number (code_of n) ≡ n
code_number-code_of zero h = refl
code_number-code_of (suc zero) h = refl
code_number-code_of (suc (suc zero)) h = refl
code_number-code_of (suc (suc (suc zero))) h = refl
code_number-code_of (suc (suc (suc (suc zero)))) h = refl
code_number-code_of (suc (suc (suc (suc (suc zero))))) h = refl
code_number-code_of (suc (suc (suc (suc (suc (suc zero)))))) h = refl
code_number-code_of (suc (suc (suc (suc (suc (suc (suc n))))))) h = omega arith

pub inside_of-state_of : (w : Inside) → IsNumber w → inside_of_word (state_of_raw w) ≡ w
inside_of-state_of w p =
    let code : code_number (code_of (w.raw % 8)) ≡ w.raw % 8 = code_number-code_of (w.raw % 8) p.code in
    let raw : word_number (state_of_raw w) ≡ w.raw = omega (arith, code) in
    λ i. record { raw = raw i }

-- what a word of this state holds
pub raw_is : (w : Inside) (s : SlotState) → IsNumber w → state_of_raw w ≡ s → w.raw ≡ word_number s
raw_is w s p view = sym (ap (λ v. v.raw) (inside_of-state_of w p)) ∙ ap word_number view
