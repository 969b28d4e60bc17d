-- Lists, one element of which is another.
use Rattle.std.proofs.Common.{◌≡◌, ℕ, ◌+◌, ◌-◌, ◌≤◌, List, [], ◌∷◌, ◌++◌, length, take, drop, set, Some, zero, suc, ap, ◌∙◌, arith, length-drop}
use Rattle.std.proofs.Math.Seq.{drop-append-add, take-append-add}
use Rattle.std.proofs.lemmas.{List.drop-append-le, List.take-append-le, List.Sums.sum_by-cons, Option.none-some, Option.same_Some}
use Rattle.std.specs.{List.AllByRecursion, List.sum_by, Prelude.slice_get, Prelude.slice_range}

module _ {X : Type 0} where
  -- a sum, one of whose terms is another
  pub sum_by-one_set : (f : X → ℕ) (xs : List X) (i : ℕ) (x y : X) → slice_get xs i ≡ Some x → sum_by f (set xs i y) + f x ≡ sum_by f xs + f y
  sum_by-one_set f [] i x y is = absurd (none-some x is)
  sum_by-one_set f (z ∷ xs) zero x y is =
      let same : f z ≡ f x = ap f (same_Some z x is) in
      let old : sum_by f (z ∷ xs) ≡ f z + sum_by f xs = sum_by-cons f z xs in
      let new : sum_by f (y ∷ xs) ≡ f y + sum_by f xs = sum_by-cons f y xs in
      omega arith
  sum_by-one_set f (z ∷ xs) (suc i) x y is =
      let rest : sum_by f (set xs i y) + f x ≡ sum_by f xs + f y = sum_by-one_set f xs i x y is in
      let old : sum_by f (z ∷ xs) ≡ f z + sum_by f xs = sum_by-cons f z xs in
      let new : sum_by f (z ∷ set xs i y) ≡ f z + sum_by f (set xs i y) = sum_by-cons f z (set xs i y) in
      omega arith

  -- what follows a list is found, and set, by its own number
  pub slice_get-after : (xs ys : List X) (i : ℕ) → slice_get (xs ++ ys) (length xs + i) ≡ slice_get ys i
  slice_get-after [] ys i = let none : 0 + i ≡ i = omega arith in ap (slice_get ys) none
  slice_get-after (x ∷ xs) ys i =
      let next : suc (length xs) + i ≡ suc (length xs + i) = omega arith in
      ap (slice_get (x ∷ (xs ++ ys))) next ∙ slice_get-after xs ys i

  pub set-after : (xs ys : List X) (i : ℕ) (y : X) → set (xs ++ ys) (length xs + i) y ≡ xs ++ set ys i y
  set-after [] ys i y = let none : 0 + i ≡ i = omega arith in ap (λ (n : ℕ). set ys n y) none
  set-after (x ∷ xs) ys i y =
      let next : suc (length xs) + i ≡ suc (length xs + i) = omega arith in
      ap (λ (n : ℕ). set (x ∷ (xs ++ ys)) n y) next ∙ ap (λ (l : List X). x ∷ l) (set-after xs ys i y)

  pub AllByRecursion-append : (P : X → Type 0) (xs ys : List X) → AllByRecursion P xs → AllByRecursion P ys → AllByRecursion P (xs ++ ys)
  AllByRecursion-append P [] ys front back = back
  AllByRecursion-append P (x ∷ xs) ys front back = (front.0, AllByRecursion-append P xs ys front.1 back)

  -- a part of two lists in a row: of the first, of both, or of the second
  pub part_of_first : (xs ys : List X) (from to : ℕ) → from ≤ to → to ≤ length xs → slice_range (xs ++ ys) from to ≡ slice_range xs from to
  part_of_first xs ys from to order within =
      let long : length (drop from xs) ≡ length xs - from = length-drop from xs in
      let fits : to - from ≤ length (drop from xs) = omega arith in
      let starts : from ≤ length xs = omega arith in
      ap (take (to - from)) (drop-append-le from xs ys starts) ∙ take-append-le (to - from) (drop from xs) ys fits

  pub part_of_both : (xs ys : List X) (from to : ℕ) → from ≤ length xs → length xs ≤ to → slice_range (xs ++ ys) from to ≡ drop from xs ++ take (to - length xs) ys
  part_of_both xs ys from to starts ends =
      let long : length (drop from xs) ≡ length xs - from = length-drop from xs in
      let parts : to - from ≡ length (drop from xs) + (to - length xs) = omega arith in
      ap (take (to - from)) (drop-append-le from xs ys starts) ∙ ap (λ (n : ℕ). take n (drop from xs ++ ys)) parts ∙ take-append-add (drop from xs) ys (to - length xs)

  pub part_of_second : (xs ys : List X) (from to : ℕ) → length xs ≤ from → from ≤ to → slice_range (xs ++ ys) from to ≡ slice_range ys (from - length xs) (to - length xs)
  part_of_second xs ys from to starts order =
      let parts : from ≡ length xs + (from - length xs) = omega arith in
      let long : to - from ≡ (to - length xs) - (from - length xs) = omega arith in
      ap (λ (n : ℕ). take (to - from) (drop n (xs ++ ys))) parts ∙ ap (take (to - from)) (drop-append-add xs ys (from - length xs))
      ∙ ap (λ (n : ℕ). take n (drop (from - length xs) ys)) long
