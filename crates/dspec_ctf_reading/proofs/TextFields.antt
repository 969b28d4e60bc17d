-- The words of a text, as fields that are read.
use Rattle.std.proofs.Common.{◌≡◌, ◌+◌, ◌++◌, ◌∷◌, ◌∙◌, ℕ, List, [], map, replicate, ap}
use Rattle.std.proofs.lemmas.List.{map-append, replicate_more}
use Rattle.dspec_ctf_reading.specs.{Words.FieldLayout, Words.told_field, declared.told.FieldText.FieldText}

-- one word more
pub words_on : (fields : List FieldText) (x : FieldText) (n : ℕ) (y : FieldLayout) → map told_field fields ≡ replicate n y → told_field x ≡ y
    → map told_field (fields ++ x ∷ []) ≡ replicate (n + 1) y
words_on fields x n y are is =
    map-append told_field fields (x ∷ []) ∙ ap (λ zs. zs ++ told_field x ∷ []) are ∙ ap (λ z. replicate n y ++ z ∷ []) is ∙ replicate_more n y
