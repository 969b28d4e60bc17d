-- What holds of each element with the one at its place, one after another.
use Rattle.std.proofs.Common.{◌≡◌, ℕ, zero, suc, ◌+◌, ◌≤◌, ◌⊎◌, inl, inr, List, [], ◌∷◌, length, map, Some, refl, sym, ap, subst, arith}
use Rattle.std.specs.Prelude.{slice_get, slice_set}
use Rattle.dspec_threads.specs.Words.{AtOne, EachPair}

module _ {A : Type 0} (R : A → A → Type 0) where
  -- so it is of the first so many, and the others are as they were
  abbrev pub EachTo : List A → List A → ℕ → Type 0
  EachTo [] [] n = Unit {0}
  EachTo [] (y ∷ ys) n = ⊥
  EachTo (x ∷ xs) [] n = ⊥
  EachTo (x ∷ xs) (y ∷ ys) zero = (y ≡ x) × EachTo xs ys zero
  EachTo (x ∷ xs) (y ∷ ys) (suc n) = R x y × EachTo xs ys n

  pub none_yet : (xs : List A) → EachTo xs xs 0
  none_yet [] = tt
  none_yet (x ∷ xs) = (refl, none_yet xs)

  further : (xs ys : List A) (n : ℕ) (x y : A) → EachTo xs ys n → slice_get ys n ≡ Some x → R x y → EachTo xs (slice_set ys n y) (suc n)
  further [] [] n x y all at does = absurd (cc (at))
  further [] (z ∷ zs) n x y all at does = absurd all
  further (w ∷ ws) [] n x y all at does = absurd all
  further (w ∷ ws) (z ∷ zs) zero x y all at does = let e : x ≡ w = cc (at, all.0) in (subst (λ v. R v y) e does, all.1)
  further (w ∷ ws) (z ∷ zs) (suc n) x y all at does = (all.0, further ws zs n x y all.1 at does)

  -- one more
  one_further : (xs ys zs : List A) (n : ℕ) → EachTo xs ys n → AtOne R n ys zs → EachTo xs zs (suc n)
  one_further xs ys zs n all one = subst (λ l. EachTo xs l (suc n)) (sym one.all) (further xs ys n one.was one.is all one.there one.does)

  pub one_more_pair : (xs ys zs : List A) (n : ℕ) → EachTo xs ys n → AtOne R n ys zs → EachTo xs zs (n + 1)
  one_more_pair xs ys zs n all one = let next : suc n ≡ n + 1 = omega arith in subst (λ k. EachTo xs zs k) next (one_further xs ys zs n all one)

  pub all_of_them : (xs ys : List A) (n : ℕ) → EachTo xs ys n → length xs ≤ n → EachPair R xs ys
  all_of_them [] [] n all few = tt
  all_of_them [] (y ∷ ys) n all few = absurd all
  all_of_them (x ∷ xs) [] n all few = absurd all
  all_of_them (x ∷ xs) (y ∷ ys) zero all few = absurd (omega (arith, few))
  all_of_them (x ∷ xs) (y ∷ ys) (suc n) all few = (all.0, all_of_them xs ys n all.1 (omega (arith, few)))

  pub count_so_far : (xs ys : List A) (n : ℕ) → EachTo xs ys n → length ys ≡ length xs
  count_so_far [] [] n all = refl
  count_so_far [] (y ∷ ys) n all = absurd all
  count_so_far (x ∷ xs) [] n all = absurd all
  count_so_far (x ∷ xs) (y ∷ ys) zero all = ap suc (count_so_far xs ys zero all.1)
  count_so_far (x ∷ xs) (y ∷ ys) (suc n) all = ap suc (count_so_far xs ys n all.1)

  pub pair_count : (xs ys : List A) → EachPair R xs ys → length ys ≡ length xs
  pair_count [] [] all = refl
  pair_count [] (y ∷ ys) all = absurd all
  pair_count (x ∷ xs) [] all = absurd all
  pair_count (x ∷ xs) (y ∷ ys) all = ap suc (pair_count xs ys all.1)

  pub pair_at : (xs ys : List A) (c : ℕ) (y : A) → EachPair R xs ys → slice_get ys c ≡ Some y → (x : A) × (slice_get xs c ≡ Some x) × R x y
  pair_at [] [] c y all at = absurd (cc (at))
  pair_at [] (z ∷ zs) c y all at = absurd all
  pair_at (x ∷ xs) [] c y all at = absurd all
  pair_at (x ∷ xs) (z ∷ zs) zero y all at = let e : z ≡ y = cc (at) in (x, refl, subst (λ v. R x v) e all.0)
  pair_at (x ∷ xs) (z ∷ zs) (suc c) y all at = pair_at xs zs c y all.1 at

  pub so_far_at : (xs ys : List A) (n c : ℕ) (y : A) → EachTo xs ys n → slice_get ys c ≡ Some y → (x : A) × (slice_get xs c ≡ Some x) × ((y ≡ x) ⊎ R x y)
  so_far_at [] [] n c y all at = absurd (cc (at))
  so_far_at [] (z ∷ zs) n c y all at = absurd all
  so_far_at (x ∷ xs) [] n c y all at = absurd all
  so_far_at (x ∷ xs) (z ∷ zs) zero zero y all at = let e : y ≡ x = cc (at, all.0) in (x, refl, inl e)
  so_far_at (x ∷ xs) (z ∷ zs) zero (suc c) y all at = so_far_at xs zs zero c y all.1 at
  so_far_at (x ∷ xs) (z ∷ zs) (suc n) zero y all at = let e : z ≡ y = cc (at) in (x, refl, inr (subst (λ v. R x v) e all.0))
  so_far_at (x ∷ xs) (z ∷ zs) (suc n) (suc c) y all at = so_far_at xs zs n c y all.1 at

  -- seen from the outside
  pub each_seen : {B : Type 0} (f : A → B) (S : B → B → Type 0) → ((x y : A) → R x y → S (f x) (f y)) → (xs ys : List A) → EachPair R xs ys → EachPair S (map f xs) (map f ys)
  each_seen f S one [] [] all = tt
  each_seen f S one [] (y ∷ ys) all = absurd all
  each_seen f S one (x ∷ xs) [] all = absurd all
  each_seen f S one (x ∷ xs) (y ∷ ys) all = (one x y all.0, each_seen f S one xs ys all.1)

-- what was written stands there
pub set_there : {A : Type 0} (xs : List A) (i : ℕ) (x y : A) → slice_get xs i ≡ Some x → slice_get (slice_set xs i y) i ≡ Some y
set_there [] i x y at = absurd (cc (at))
set_there (z ∷ zs) zero x y at = refl
set_there (z ∷ zs) (suc i) x y at = set_there zs i x y at

pub set_twice : {A : Type 0} (xs : List A) (i : ℕ) (x y : A) → slice_set (slice_set xs i x) i y ≡ slice_set xs i y
set_twice [] i x y = refl
set_twice (z ∷ zs) zero x y = refl
set_twice (z ∷ zs) (suc i) x y = ap (λ ws. z ∷ ws) (set_twice zs i x y)

pub set_past : {A : Type 0} (xs : List A) (i : ℕ) (y : A) → length xs ≤ i → slice_set xs i y ≡ xs
set_past [] i y over = refl
set_past (z ∷ zs) zero y over = absurd (omega (arith, over))
set_past (z ∷ zs) (suc i) y over = ap (λ ws. z ∷ ws) (set_past zs i y (omega (arith, over)))

module _ {A : Type 0} (S : A → A → Type 0) (same : (x : A) → S x x) where
  pub each_itself : (xs : List A) → EachPair S xs xs
  each_itself [] = tt
  each_itself (x ∷ xs) = (same x, each_itself xs)

  pub each_set : (xs : List A) (i : ℕ) (x y : A) → slice_get xs i ≡ Some x → S x y → EachPair S xs (slice_set xs i y)
  each_set [] i x y at is = absurd (cc (at))
  each_set (z ∷ zs) zero x y at is = let e : x ≡ z = cc (at) in (subst (λ v. S v y) e is, each_itself zs)
  each_set (z ∷ zs) (suc i) x y at is = (same z, each_set zs i x y at is)
