-- The ends of the rings, in a list.
use Rattle.std.proofs.Common.{◌≡◌, ℕ, ◌<◌, List, [], ◌∷◌, length, refl, ap, ◌∙◌, arith}
use Rattle.std.proofs.lemmas.{List.set-get_or, Option.get_or_from_slice_get, Option.slice_get_read}
use Rattle.std.specs.{Option.option_map_or, Prelude.slice_get, Prelude.slice_set, Prelude.slice_index_or, Prelude.remove, Prelude.Some}
use Rattle.dspec_session_core.specs.Words.{ConsumerKnows}

-- the first element, and what is left when it is removed
pub first_and_rest : {A : Type 0} (xs : List A) (x : A) → 0 < length xs → x ≡ slice_index_or xs 0 x → x ∷ remove xs 0 ≡ xs
first_and_rest [] x some is = absurd (omega arith)
first_and_rest (y ∷ ys) x some is = ap (λ z. z ∷ ys) is

-- an element put back where it stands
pub put_back : {A : Type 0} (xs : List A) (i : ℕ) (x : A) → x ≡ slice_index_or xs i x → slice_set xs i x ≡ xs
put_back xs i x is = ap (λ z. slice_set xs i z) is ∙ set-get_or xs i x

-- the end of the CPU c
pub end_at : (es : List ConsumerKnows) (c : ℕ) (d e : ConsumerKnows) → d ≡ slice_index_or es c d → slice_get es c ≡ Some e → d ≡ e
end_at es c d e is there = is ∙ get_or_from_slice_get es c e d there

-- how many were taken there
pub taken_is : (es : List ConsumerKnows) (c : ℕ) (d : ConsumerKnows) → c < length es → d ≡ slice_index_or es c d
    → option_map_or (λ (e : ConsumerKnows). length e.taken) (slice_get es c) 0 ≡ length d.taken
taken_is es c d lt is = ap (λ o. option_map_or (λ (e : ConsumerKnows). length e.taken) o 0) (slice_get_read es (length es) c d refl lt is)

-- a list without elements, by its length
pub none_in : {A : Type 0} (xs : List A) (n : ℕ) → n ≡ length xs → n ≡ 0 → xs ≡ []
none_in [] n e z = refl
none_in (x ∷ xs) n e z = absurd (omega arith)
