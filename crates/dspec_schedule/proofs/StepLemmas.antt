-- Steps over a list that grows at its end, or whose first fault is at a place.
use Rattle.std.proofs.Common.{◌≡◌, ℕ, ◌+◌, ◌<◌, ◌&&◌, List, [], ◌∷◌, ◌++◌, length, map, take, drop, set, get_or, add-one, suc, Result, Ok, Err, is_ok, refl, ap, sym, ◌∙◌}
use Rattle.std.proofs.Math.Seq.{take-suc, take-suc-set, drop-cons}
use Rattle.std.proofs.lemmas.List.{map-append, take-append-drop}
use Rattle.std.specs.List.{list_all}
use Rattle.dspec_schedule.specs.Words.{◌>>=◌, each}

and_then_ok : {C E : Type 0} (r : Result C E) → r ≡ (r >>= λ y. Ok y)
and_then_ok (Ok y) = refl
and_then_ok (Err e) = refl

module _ {B E : Type 0} where
  regrouped : (r : Result B E) (s t : Result (List B) E)
      → (r >>= λ b. (s >>= λ ys. t >>= λ zs. Ok (ys ++ zs)) >>= λ zs. Ok (b ∷ zs)) ≡ ((r >>= λ b. s >>= λ ys. Ok (b ∷ ys)) >>= λ ys. t >>= λ zs. Ok (ys ++ zs))
  regrouped (Err e) s t = refl
  regrouped (Ok b) (Err e) t = refl
  regrouped (Ok b) (Ok ys) (Err e) = refl
  regrouped (Ok b) (Ok ys) (Ok zs) = refl

  each-append : {A : Type 0} (f : A → Result B E) (xs zs : List A) → each f (xs ++ zs) ≡ (each f xs >>= λ ys. each f zs >>= λ ws. Ok (ys ++ ws))
  each-append f [] zs = and_then_ok (each f zs)
  each-append f (x ∷ xs) zs = rw (each-append f xs zs) (regrouped (f x) (each f xs) (each f zs))

  -- one more element is read, and its value written after those so far
  pub each-more : {A X : Type 0} (v : A → X) (f : X → Result B E) (xs : List A) (ys : List B) (i : ℕ) (d : A) (y : B) → i < length xs → i < length ys
      → each f (map v (take i xs)) ≡ Ok (take i ys) → f (v (get_or xs i d)) ≡ Ok y → each f (map v (take (i + 1) xs)) ≡ Ok (take (i + 1) (set ys i y))
  each-more v f xs ys i d y in_xs in_ys so_far here =
      rw (add-one, take-suc xs i d in_xs, take-suc-set ys i y in_ys, map-append, each-append, so_far, here) refl

  -- the first element with a fault is the fault of all
  pub each-fault : {A X : Type 0} (v : A → X) (f : X → Result B E) (xs : List A) (ys : List B) (i : ℕ) (d : A) (e : E) → i < length xs
      → each f (map v (take i xs)) ≡ Ok ys → f (v (get_or xs i d)) ≡ Err e → each f (map v xs) ≡ Err e
  each-fault v f xs ys i d e in_xs so_far here =
      let cut : xs ≡ take i xs ++ (get_or xs i d ∷ drop (suc i) xs) = sym (take-append-drop i xs) ∙ ap (λ l. take i xs ++ l) (drop-cons xs i d in_xs) in
      ap (λ l. each f (map v l)) cut ∙ rw (map-append, each-append, so_far, here) refl

  ok_both : (r : Result B E) (s : Result (List B) E) → is_ok (r >>= λ y. s >>= λ ys. Ok (y ∷ ys)) ≡ (is_ok r && is_ok s)
  ok_both (Err e) s = refl
  ok_both (Ok y) (Err e) = refl
  ok_both (Ok y) (Ok ys) = refl

  pub is_ok-each : {A X : Type 0} (v : A → X) (f : X → Result B E) (xs : List A) → is_ok (each f (map v xs)) ≡ list_all (λ x. is_ok (f (v x))) xs
  is_ok-each v f [] = refl
  is_ok-each v f (x ∷ xs) = ok_both (f (v x)) (each f (map v xs)) ∙ ap (λ b. is_ok (f (v x)) && b) (is_ok-each v f xs)
