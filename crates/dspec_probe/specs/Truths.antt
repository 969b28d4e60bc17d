-- Cited by calls. Which fields are truth values: those whose number 2 stands for nothing.
use Rattle.std.specs.Prelude.{ℕ, Bool, List, [], ◌∷◌, Option, is_none, map, replicate, set, take}

-- by what the numbers of so many fields stand for, where all are 0 but this one, if it is one of them
abbrev pub is_truth : {F : Type 0} → (List ℕ → Option F) → ℕ → ℕ → Bool
is_truth values count place = is_none (values (take count (set (replicate 8 0) place 2)))

-- of the eight places
abbrev pub truths_of : {F : Type 0} → (List ℕ → Option F) → ℕ → List Bool
truths_of values count = map (is_truth values count) (0 ∷ 1 ∷ 2 ∷ 3 ∷ 4 ∷ 5 ∷ 6 ∷ 7 ∷ [])
