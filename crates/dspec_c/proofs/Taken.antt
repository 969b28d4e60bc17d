-- The batches that are out, one at a time of a CPU.
use Rattle.std.proofs.Common.{◌≡◌, ℕ, ◌<◌, List, [], ◌∷◌, length, Option, Some, None, suc, zero, refl, sym, ap, ◌∙◌}
use Rattle.std.proofs.lemmas.Option.{slice_get_read}
use Rattle.std.specs.Prelude.{slice_get, slice_index_or, slice_set}
use Rattle.dspec_c.specs.Words.{Batch}
use Rattle.dspec_c.proofs.Each.{set_back}

pub none_out : (xs : List (Option Batch)) (c : ℕ) (a x n : Option Batch) → c < length xs → x ≡ slice_index_or xs c x → a ≡ x → a ≡ None → n ≡ None
    → (slice_get xs c ≡ Some None) × (slice_set xs c n ≡ xs)
none_out xs c a x n small is e f g = (slice_get_read xs (length xs) c x refl small is ∙ ap Some (sym e ∙ f), set_back xs c x n (g ∙ sym f ∙ e) is)

pub was_out : (xs : List (Option Batch)) (c : ℕ) (a x : Option Batch) (b : Batch) → c < length xs → x ≡ slice_index_or xs c x → a ≡ x → a ≡ Some b → slice_get xs c ≡ Some (Some b)
was_out xs c a x b small is e f = slice_get_read xs (length xs) c x refl small is ∙ ap Some (sym e ∙ f)

-- what goes back to where it was changes nothing
pub put_back : (xs : List (Option Batch)) (c : ℕ) (x n y : Option Batch) → x ≡ slice_index_or xs c x → y ≡ x → slice_set (slice_set xs c n) c y ≡ xs
put_back [] c x n y is e = refl
put_back (z ∷ zs) zero x n y is e = ap (λ w. w ∷ zs) (e ∙ is)
put_back (z ∷ zs) (suc c) x n y is e = ap (λ ws. z ∷ ws) (put_back zs c x n y is e)
