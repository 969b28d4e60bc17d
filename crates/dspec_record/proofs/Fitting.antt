-- When values fit fields.
use Rattle.std.proofs.Common.{◌≡◌, ◌≢◌, ◌&&◌, ◌^◌, ℕ, suc, Bool, true, false, ltb, IsTrue, List, [], ◌∷◌, length, refl, ap, ◌∙◌}
use Rattle.dspec_record.specs.{Words.width, Words.fits, Words.both, declared.field.Field.Field}

and-false : (b : Bool) → (b && false) ≡ false
and-false true = refl
and-false false = refl

pub fits-apart : (fs : List Field) (vs : List ℕ) → length fs ≢ length vs → fits fs vs ≡ false
fits-apart [] [] h = absurd (h refl)
fits-apart [] (v ∷ vs) h = refl
fits-apart (f ∷ fs) [] h = refl
fits-apart (f ∷ fs) (v ∷ vs) h =
    ap (λ b. ltb v (256 ^ width f) && b) (fits-apart fs vs (λ e. h (ap suc e))) ∙ and-false (ltb v (256 ^ width f))

pub fits-length : (fs : List Field) (vs : List ℕ) → IsTrue (fits fs vs) → length fs ≡ length vs
fits-length [] [] h = refl
fits-length [] (v ∷ vs) h = absurd (cc)
fits-length (f ∷ fs) [] h = absurd (cc)
fits-length (f ∷ fs) (v ∷ vs) h = ap suc (fits-length fs vs (both (ltb v (256 ^ width f)) (fits fs vs) h).1)
