-- Places of a list that don't have a value.
use Rattle.std.proofs.{Common.◌≡◌, Common.ℕ, Common.◌<◌, Common.◌≤◌, Common.List, Common.Some, Common.length, Common.⊎_elim, Common.arith, lemmas.Option.slice_get_cases}
use Rattle.std.specs.List.{slice_get}

-- a value that none of all places has stands nowhere
pub nowhere : {X : Type 0} (xs : List X) (x : X) (n : ℕ) → length xs ≤ n → ((k : ℕ) → k < n → slice_get xs k ≡ Some x → ⊥) → (k : ℕ) → slice_get xs k ≡ Some x → ⊥
nowhere xs x n le below k is =
    ⊎_elim (λ here. below k (let lt = here.1 in omega arith) is) (λ past. let none = past.1 in cc) (slice_get_cases xs k).1
