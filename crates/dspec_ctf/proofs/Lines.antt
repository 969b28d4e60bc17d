-- Names that are borrowed: whether one is among them.
use Rattle.std.proofs.Common.{◌≡◌, ◌||◌, Bool, ℕ, zero, suc, ◌<◌, List, [], ◌∷◌, length, map, take, slice_index_or, refl, ap, arith}
use Rattle.std.specs.List.{list_any}

pub list_any_map : {A : Type 0} (p : List ℕ → Bool) (name : A → List ℕ) (xs : List A)
    → list_any p (map name xs) ≡ list_any (λ x. p (name x)) xs
list_any_map p name [] = refl
list_any_map p name (x ∷ xs) = ap (λ more. p (name x) || more) (list_any_map p name xs)

pub now_before : {A : Type 0} (name : A → List ℕ) (xs : List A) (place : ℕ) → take place (map name xs) ≡ map name (take place xs)
now_before name xs zero = refl
now_before name [] (suc place) = refl
now_before name (x ∷ xs) (suc place) = ap (λ more. name x ∷ more) (now_before name xs place)

pub now_at : {A : Type 0} (name : A → List ℕ) (xs : List A) (place : ℕ) (d : A) → place < length xs
    → slice_index_or (map name xs) place [] ≡ name (slice_index_or xs place d)
now_at name [] place d below = elim below [ ]
now_at name (x ∷ xs) zero d below = refl
now_at name (x ∷ xs) (suc place) d below = now_at name xs place d (omega (arith, below))
