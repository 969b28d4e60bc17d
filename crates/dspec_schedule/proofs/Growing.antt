-- A text that grows by two pieces for each element of a list.
use Rattle.std.proofs.{Common.◌≡◌, Common.ℕ, Common.List, Common.[], Common.◌∷◌, Common.◌++◌, Common.◌∙◌, Common.ap, Common.sym, Common.append_assoc, lemmas.List.flat_map_more}
use Rattle.std.specs.List.{flat_map}

pub flat_map-two_more : {X : Type 0} (f : X → List ℕ) (start before middle after first second : List ℕ) (xs : List X) (x : X)
    → before ≡ start ++ flat_map f xs → middle ≡ before ++ first → after ≡ middle ++ second → f x ≡ first ++ second
    → after ≡ start ++ flat_map f (xs ++ x ∷ [])
flat_map-two_more f start before middle after first second xs x so_far one two pieces =
    two ∙ ap (λ t. t ++ second) one ∙ append_assoc before first second ∙ ap (λ t. t ++ (first ++ second)) so_far
    ∙ ap (λ t. (start ++ flat_map f xs) ++ t) (sym pieces) ∙ flat_map_more f start xs x
