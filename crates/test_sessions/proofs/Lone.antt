-- A list of few elements.
use Rattle.std.proofs.Common.{◌≡◌, suc, List, [], ◌∷◌, ◌++◌, length, Some, refl, ap, ◌∙◌, arith}
use Rattle.std.specs.Prelude.{slice_get}

count_more : {A : Type 0} (xs : List A) (y : A) → length (xs ++ y ∷ []) ≡ suc (length xs)
count_more [] y = refl
count_more (z ∷ xs) y = ap suc (count_more xs y)

nothing : {A : Type 0} (xs : List A) → length xs ≡ 0 → xs ≡ []
nothing [] e = refl
nothing (x ∷ xs) e = absurd (omega arith)

-- what was popped from a list of two are its elements
pub stood_two : {A : Type 0} (items left rest : List A) (x y : A) → items ≡ left ++ y ∷ [] → left ≡ rest ++ x ∷ [] → length items ≡ 2 → items ≡ x ∷ y ∷ []
stood_two items left rest x y last first n =
    let a = count_more left y in let b = count_more rest x in
    let d = ap length last in let e = ap length first in
    let none : rest ≡ [] = nothing rest (omega arith) in
    last ∙ ap (λ l. l ++ y ∷ []) (first ∙ ap (λ l. l ++ x ∷ []) none)
