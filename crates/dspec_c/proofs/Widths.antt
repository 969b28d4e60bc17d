-- Fields by their widths, one more at a time.
use Rattle.std.proofs.Common.{◌≡◌, ℕ, ◌<◌, List, [], ◌∷◌, length, Option, Some, None, take, zero, suc, refl, ap, ◌∙◌, get_or, arith}
use Rattle.std.specs.Prelude.{slice_set}
use Rattle.dspec_c.specs.Words.{Field, field_of_width, fields_of_widths, field_and_rest}

-- where the others become more, so do all
more : (a : Option Field) (b c : Option (List Field)) (f : Field) (fs gs : List Field) → field_and_rest a b ≡ Some (f ∷ fs) → (b ≡ Some fs → c ≡ Some gs) → field_and_rest a c ≡ Some (f ∷ gs)
more None b c f fs gs is then = cc
more (Some x) None c f fs gs is then = cc
more (Some x) (Some xs) c f fs gs is then = let e : c ≡ Some gs = then (cc) in let first : x ≡ f = cc in ap (λ o. field_and_rest (Some x) o) e ∙ ap (λ y. Some (y ∷ gs)) first

pub one_more : (n : ℕ) (ws : List ℕ) (fs : List Field) (f : Field) → n < length ws → n < length fs → fields_of_widths (take n ws) ≡ Some (take n fs) → field_of_width (get_or ws n 0) ≡ Some f
    → fields_of_widths (take (suc n) ws) ≡ Some (take (suc n) (slice_set fs n f))
one_more zero [] fs f small there is at = absurd (omega arith)
one_more zero (w ∷ ws) [] f small there is at = absurd (omega arith)
one_more zero (w ∷ ws) (g ∷ fs) f small there is at = ap (λ o. field_and_rest o (Some [])) at
one_more (suc n) [] fs f small there is at = absurd (omega arith)
one_more (suc n) (w ∷ ws) [] f small there is at = absurd (omega arith)
one_more (suc n) (w ∷ ws) (g ∷ fs) f small there is at =
    more (field_of_width w) (fields_of_widths (take n ws)) (fields_of_widths (take (suc n) ws)) g (take n fs) (take (suc n) (slice_set fs n f)) is
    (λ so. one_more n ws fs f (omega arith) (omega arith) so at)

none_later : (a : Option Field) → field_and_rest a None ≡ None
none_later None = refl
none_later (Some x) = refl

-- one that is none makes none of all
pub one_none : (n : ℕ) (ws : List ℕ) → n < length ws → field_of_width (get_or ws n 0) ≡ None → fields_of_widths ws ≡ None
one_none n [] small at = absurd (omega arith)
one_none zero (w ∷ ws) small at = ap (λ o. field_and_rest o (fields_of_widths ws)) at
one_none (suc n) (w ∷ ws) small at = ap (λ o. field_and_rest (field_of_width w) o) (one_none n ws (omega arith) at) ∙ none_later (field_of_width w)
