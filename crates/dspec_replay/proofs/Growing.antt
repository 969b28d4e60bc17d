-- A text that grows by the piece of each element of a list in turn, and by that of each element with its number.
use Rattle.std.proofs.Common.{◌≡◌, ◌<◌, ◌+◌, ℕ, List, [], ◌∷◌, ◌++◌, ◌∙◌, length, take, get_or, ap, sym, arith}
use Rattle.std.proofs.lemmas.List.{flat_map_more, take_more, length-take-le}
use Rattle.std.specs.List.{enumerate_from, flat_map}

pub one_more : {X : Type 0} (f : X → List ℕ) (start before after : List ℕ) (xs : List X) (i : ℕ) (x d : X) → i < length xs → x ≡ get_or xs i d
    → before ≡ start ++ flat_map f (take i xs) → after ≡ before ++ f x → after ≡ start ++ flat_map f (take (i + 1) xs)
one_more f start before after xs i x d lt is so_far more =
    more ∙ ap (λ t. t ++ f x) so_far ∙ flat_map_more f start (take i xs) x
    ∙ ap (λ l. start ++ flat_map f l) (ap (λ y. take i xs ++ y ∷ []) is ∙ sym (take_more xs i d lt))

numbered_last : {X : Type 0} (n : ℕ) (xs : List X) (x : X) → enumerate_from n (xs ++ x ∷ []) ≡ enumerate_from n xs ++ (n + length xs, x) ∷ []
numbered_last n [] x = let e : n ≡ n + 0 = omega arith in ap (λ m. (m, x) ∷ []) e
numbered_last n (y ∷ ys) x =
    let e : n + 1 + length ys ≡ n + length (y ∷ ys) = omega arith in
    ap (λ l. (n, y) ∷ l) (numbered_last (n + 1) ys x ∙ ap (λ m. enumerate_from (n + 1) ys ++ (m, x) ∷ []) e)

pub one_more_numbered : {X : Type 0} (f : ℕ × X → List ℕ) (start before after : List ℕ) (xs : List X) (i : ℕ) (x d : X) → i < length xs → x ≡ get_or xs i d
    → before ≡ start ++ flat_map f (enumerate_from 0 (take i xs)) → after ≡ before ++ f (i, x)
    → after ≡ start ++ flat_map f (enumerate_from 0 (take (i + 1) xs))
one_more_numbered f start before after xs i x d lt is so_far more =
    let whole = length-take-le i xs (omega arith) in
    let count : 0 + length (take i xs) ≡ i = omega arith in
    let numbers = numbered_last 0 (take i xs) x ∙ ap (λ m. enumerate_from 0 (take i xs) ++ (m, x) ∷ []) count in
    more ∙ ap (λ t. t ++ f (i, x)) so_far ∙ flat_map_more f start (enumerate_from 0 (take i xs)) (i, x)
    ∙ ap (λ l. start ++ flat_map f l) (sym numbers ∙ ap (λ l. enumerate_from 0 l) (ap (λ y. take i xs ++ y ∷ []) is ∙ sym (take_more xs i d lt)))
