-- What holds of each of a list, one by one.
use Rattle.std.proofs.Common.{◌≡◌, ℕ, ◌+◌, ◌<◌, ◌⊎◌, List, Some, get_or, arith}
use Rattle.std.proofs.lemmas.{Bool.Decides.nat_tests, Option.get_or_from_slice_get}
use Rattle.std.specs.Prelude.{slice_get}

below : (i n : ℕ) → i < n + 1 → (i < n) ⊎ (i ≡ n)
below i n h1 = grind (arith, nat_tests)

-- one more
pub one_more_stands : {A : Type 0} (P : A → Type 0) (xs : List A) (n : ℕ) (x : A) → x ≡ get_or xs n x → ((i : ℕ) (y : A) → i < n → slice_get xs i ≡ Some y → P y) → P x
    → (i : ℕ) (y : A) → i < n + 1 → slice_get xs i ≡ Some y → P y
one_more_stands P xs n x at before here i y lt e = grind (arith, nat_tests, get_or_from_slice_get, below)
