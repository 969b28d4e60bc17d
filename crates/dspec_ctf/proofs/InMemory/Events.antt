-- The names of one event more, after those of others.
use Rattle.std.proofs.Common.{◌≡◌, ◌+◌, ◌-◌, ◌<◌, ◌++◌, ◌∷◌, ◌∙◌, ℕ, List, [], length, map, take, drop, get_or, ap, suc, sym, arith, subst}
use Rattle.std.proofs.Math.{ListN.get_or-map, Seq.take-add}
use Rattle.std.proofs.lemmas.List.{drop-map, flat_map_more, length-drop, length-map, map-append, take_all, take_more, Elements.All-drop, Elements.All-get_or, Elements.All-push}
use Rattle.std.specs.{List.All, List.flat_map, List.take-map, Prelude.None, Prelude.slice_range}
use Rattle.dspec_ctf.specs.Words.{ProbeNames, AreEvents, HasNoEvents, kinds_in, texts_in}
use Rattle.dspec_ctf.specs.declared.in_memory.fault.TextFault.{TextFault, TheVariants.TooSmall, TheVariants.NotText, TheVariants.BadKind, TheVariants.Count, TheVariants.Metadata}

-- the first of some things, and so many after it
pub first_and_some : {X A : Type 0} (f : X → A) (d : X) (n : ℕ) (xs : List X) → n < length xs → f (get_or xs 0 d) ∷ map f (slice_range xs 1 (1 + n)) ≡ take (1 + n) (map f xs)
first_and_some f d n [] small = absurd (omega arith)
first_and_some f d n (x ∷ xs) small =
    let less : (1 + n) - 1 ≡ n = omega arith in
    let more : suc n ≡ 1 + n = omega arith in
    ap (λ k. f x ∷ map f (take k xs)) less ∙ (ap (λ ys. f x ∷ ys) (sym (take-map f n xs)) ∙ ap (λ k. take k (map f (x ∷ xs))) more)

-- all from a place on is what is after it
pub rest_is : {X : Type 0} (xs : List X) (n : ℕ) → slice_range xs n (length xs) ≡ drop n xs
rest_is xs n = take_all (length xs - n) (drop n xs) (omega (arith, length-drop n xs))

-- what is wrong with the numbers after a place is wrong with all
pub of_part : (n : ℕ) (kinds : List ℕ) (fault : TextFault) → HasNoEvents (slice_range kinds n (length kinds)) fault → HasNoEvents kinds fault
of_part n kinds (TooSmall needed) is = is
of_part n kinds NotText is = is
of_part n kinds BadKind is = λ all. is (subst (All (λ kind. kind < 5)) (sym (rest_is kinds n)) (All-drop (λ kind. kind < 5) n kinds all))
of_part n kinds Count is = is
of_part n kinds (Metadata fault) is = is

-- so many names after a place
pub some_after : {X A : Type 0} (f : X → A) (xs : List X) (n m : ℕ) → take m (map f (slice_range xs n (length xs))) ≡ take m (drop n (map f xs))
some_after f xs n m = ap (λ ys. take m ys) (ap (λ ys. map f ys) (rest_is xs n) ∙ sym (drop-map f n xs))

pub some_numbers : (xs : List ℕ) (n m : ℕ) → take m (slice_range xs n (length xs)) ≡ take m (drop n xs)
some_numbers xs n m = ap (λ ys. take m ys) (rest_is xs n)

flat_map_push : {X A : Type 0} (f : X → List A) (xs : List X) (x : X) → flat_map f xs ++ f x ≡ flat_map f (xs ++ x ∷ [])
flat_map_push f xs x = flat_map_more f [] xs x

one_after : {X A : Type 0} (f : X → List A) (xs : List X) (x : X) (ys : List A) (n m : ℕ) → take n ys ≡ flat_map f xs → f x ≡ take m (drop n ys) → take (n + m) ys ≡ flat_map f (xs ++ x ∷ [])
one_after f xs x ys n m front back =
    take-add n m ys ∙ (ap (λ zs. zs ++ take m (drop n ys)) front ∙ (ap (λ zs. flat_map f xs ++ zs) (sym back) ∙ flat_map_push f xs x))

pub one_more : (names : List (List ℕ)) (kinds : List ℕ) (events : List ProbeNames) (event : ProbeNames) (n m k l : ℕ)
    → AreEvents (take n names) (take k kinds) events → texts_in event ≡ take m (drop n names) → kinds_in event ≡ take l (drop k kinds) → event.labels ≡ None
    → AreEvents (take (n + m) names) (take (k + l) kinds) (events ++ event ∷ [])
one_more names kinds events event n m k l are texts numbers bare = record {
  texts = one_after texts_in events event names n m are.texts texts;
  meaning = one_after kinds_in events event kinds k l are.meaning numbers;
  bare = All-push (λ e. e.labels ≡ None) events event are.bare bare;
}

-- what holds of all that a function gives of some things holds of what it gives of one
pub all_at : {X A : Type 0} (f : X → A) (P : A → Type 0) (xs : List X) (n : ℕ) (d : X) → n < length xs → All P (map f xs) → P (f (get_or xs n d))
all_at f P xs n d small all = subst P (get_or-map f xs n d) (All-get_or P (map f xs) n (f d) (omega (arith, length-map xs f)) all)

-- one more, of which the function gives the same
pub map_more : {X Y A : Type 0} (f : X → A) (g : Y → A) (xs : List X) (x : X) (ys : List Y) (n : ℕ) (d : Y) → n < length ys
    → map f xs ≡ take n (map g ys) → f x ≡ g (get_or ys n d) → map f (xs ++ x ∷ []) ≡ take (n + 1) (map g ys)
map_more f g xs x ys n d small are is =
    map-append f xs (x ∷ []) ∙ (ap (λ zs. zs ++ f x ∷ []) are ∙ (ap (λ z. take n (map g ys) ++ z ∷ []) (is ∙ sym (get_or-map g ys n d))
    ∙ sym (take_more (map g ys) n (g d) (omega (arith, length-map ys g)))))
