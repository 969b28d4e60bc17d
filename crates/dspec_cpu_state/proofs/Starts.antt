-- Lists that are made element by element, and lists of zeros.
use Rattle.std.proofs.Common.{◌≡◌, ℕ, zero, suc, ◌+◌, ◌<◌, List, [], ◌∷◌, ◌++◌, length, get_or, replicate, Some, refl, sym, ap, ◌∙◌, subst, arith}
use Rattle.std.proofs.lemmas.{List.length-replicate, List.get_or-replicate, Option.slice_get-get_or}
use Rattle.std.specs.Prelude.{slice_get}

-- so many elements, of each of which P holds
pub record Made {A : Type 0} (P : A → Type 0) (n : ℕ) (xs : List A) : Type 0 where
  pub count : length xs ≡ n
  pub each : (i : ℕ) (x : A) → slice_get xs i ≡ Some x → P x

module _ {A : Type 0} (P : A → Type 0) where
  pub none_made : (xs : List A) → xs ≡ [] → Made P 0 xs
  none_made xs none = subst (Made P 0) (sym none) record { count = refl; each = λ i x e. absurd (cc (e)) }

  each_more : (xs : List A) (y : A) → ((i : ℕ) (x : A) → slice_get xs i ≡ Some x → P x) → P y → (i : ℕ) (x : A) → slice_get (xs ++ y ∷ []) i ≡ Some x → P x
  each_more [] y was own zero x e = let is : y ≡ x = cc (e) in subst P is own
  each_more [] y was own (suc i) x e = absurd (cc (e))
  each_more (z ∷ xs) y was own zero x e = was 0 x e
  each_more (z ∷ xs) y was own (suc i) x e = each_more xs y (λ j. was (suc j)) own i x e

  count_more : (xs : List A) (y : A) → length (xs ++ y ∷ []) ≡ suc (length xs)
  count_more [] y = refl
  count_more (z ∷ xs) y = ap suc (count_more xs y)

  -- one element more
  pub one_made : (n : ℕ) (xs new : List A) (y : A) → new ≡ xs ++ y ∷ [] → Made P n xs → P y → Made P (n + 1) new
  one_made n xs new y e was own = subst (Made P (n + 1)) (sym e) record { count = let c = count_more xs y in let w = was.count in omega arith; each = each_more xs y was.each own }

-- so many zeros
pub zero_there : (n i : ℕ) (xs : List ℕ) → xs ≡ replicate n 0 → i < n → slice_get xs i ≡ Some 0
zero_there n i xs e lt =
    subst (λ ys. slice_get ys i ≡ Some 0) (sym e)
    (slice_get-get_or (replicate n 0) i 0 (subst (λ x. i < x) (sym (length-replicate n 0)) lt) ∙ ap Some (get_or-replicate n i 0 0 lt))

pub zero_count : (n : ℕ) (xs : List ℕ) → xs ≡ replicate n 0 → length xs ≡ n
zero_count n xs e = ap length e ∙ length-replicate n 0

-- at each place of a list of zeros stands 0, and after it too
pub zero_everywhere : (n s : ℕ) → get_or (replicate {A = ℕ} n 0) s 0 ≡ 0
zero_everywhere (suc n) (suc s) = zero_everywhere n s
zero_everywhere n s = refl
