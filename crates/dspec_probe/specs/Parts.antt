-- Cited by calls. What the numbers of a record stand for, a part of them each.
use Rattle.std.specs.Option.{option_map, option_and_then}
use Rattle.std.specs.Prelude.{ℕ, nat_lt, List, [], ◌∷◌, length, take, drop, Option, Some, None, if◌then◌else◌}

-- no number stands for nothing
abbrev pub nothing_of : List ℕ → Option (Unit {0})
nothing_of [] = Some tt
nothing_of _ = None

-- one number for one value
abbrev pub one_of : {V : Type 0} → (ℕ → Option V) → List ℕ → Option V
one_of value (n ∷ []) = value n
one_of value _ = None

-- the first so many for the first part, and those after them for the others
abbrev pub both_of : {V W : Type 0} → ℕ → (List ℕ → Option V) → (List ℕ → Option W) → List ℕ → Option (V × W)
both_of n first others ns =
    if nat_lt (length ns) n then None
    else option_and_then (λ v. option_map (λ w. (v, w)) (others (drop n ns))) (first (take n ns))
