-- Looking at places, one after another, and handing out what waits at one.
use Rattle.std.proofs.Common.{◌≡◌, ℕ, ◌<◌, List, [], ◌∷◌, ◌++◌, length, Bool, true, false, Option, Some, None, suc, zero, refl, sym, ap, ◌∙◌, subst, inl, inr, arith}
use Rattle.std.proofs.lemmas.{Bool.Decides.nat_tests, Option.slice_get_read, Option.slice_get_within}
use Rattle.std.specs.Option.{option_map_or}
use Rattle.std.specs.Prelude.{◌⊎◌, Result, Ok, Err, IfOk, IfSome, IsSome, OnErr, is_some, slice_get, slice_index_or, slice_set}
use Rattle.dspec_c.specs.Words.{Shared, Came, CpuStay, LeavesPlace, CpuSide, Stay, AllInside, AreCame, IsInsideAt, LeavesOne, LooksAt, OneOutside, firsts, inside_at}
use Rattle.dspec_c.proofs.{Each.set_back, Options.if_some, Options.if_true, Options.none_of, Options.or_this}

stays_so : {X : Type 0} (o : Option X) → IfSome o (λ x. o ≡ Some x)
stays_so None = tt
stays_so (Some x) = refl

still : {X : Type 0} (a b c : Option X) → IfSome a (λ x. b ≡ Some x) → IfSome b (λ x. c ≡ Some x) → IfSome a (λ x. c ≡ Some x)
still None b c is was = tt
still (Some x) b c is was = subst (λ (o : Option _). IfSome o (λ y. c ≡ Some y)) is was

some_still : {X : Type 0} (a b : Option X) → IfSome a (λ z. b ≡ Some z) → IsSome a → IsSome b
some_still None b e some = absurd (subst (λ (t : Bool). if_true t) (sym some) tt)
some_still (Some z) b e some = ap (λ o. is_some o) e

pub itself : {A B : Type 0} (s : Stay A B) → Came s s
itself s = record { first = refl; waits = refl; stays = stays_so s.inside }

no_stay : {X : Type 0} (o : Option X) (P : X → Type 0) → false ≡ is_some o → IfSome o P
no_stay None P e = tt
no_stay (Some x) P e = absurd (subst (λ (t : Bool). if_true t) (sym e) tt)

-- where nothing was inside, something may have come
pub comes : {A B : Type 0} (old new : Stay A B) → false ≡ is_some old.inside → new.first ≡ old.first → new.waits ≡ old.waits → Came old new
comes old new none e f = record { first = e; waits = f; stays = no_stay old.inside _ none }

pub after : {A B : Type 0} (a b c : Stay A B) → Came a b → Came b c → Came a c
after a b c is was = record { first = was.first ∙ is.first; waits = was.waits ∙ is.waits; stays = still a.inside b.inside c.inside is.stays was.stays }

pub all_themselves : (xs : List CpuStay) → AreCame xs xs
all_themselves [] = tt
all_themselves (x ∷ xs) = (itself x, all_themselves xs)

pub all_after : (xs ys zs : List CpuStay) → AreCame xs ys → AreCame ys zs → AreCame xs zs
all_after [] [] [] is was = tt
all_after [] [] (z ∷ zs) is was = absurd was
all_after [] (y ∷ ys) zs is was = absurd is
all_after (x ∷ xs) [] zs is was = absurd is
all_after (x ∷ xs) (y ∷ ys) [] is was = absurd was
all_after (x ∷ xs) (y ∷ ys) (z ∷ zs) is was = (after x y z is.0 was.0, all_after xs ys zs is.1 was.1)

one_came : (xs : List CpuStay) (c : ℕ) (x y : CpuStay) → slice_get xs c ≡ Some x → Came x y → AreCame xs (slice_set xs c y)
one_came [] c x y at is = tt
one_came (z ∷ zs) zero x y at is = (subst (λ (w : CpuStay). Came w y) (sym (ap (λ (o : Option CpuStay). or_this x o) at)) is, all_themselves zs)
one_came (z ∷ zs) (suc c) x y at is = (itself z, one_came zs c x y at is)

-- a look at one place
pub looks_at : (c : ℕ) (xs : List CpuStay) (x y : CpuStay) → c < length xs → x ≡ slice_index_or xs c x → Came x y → LooksAt c xs (slice_set xs c y)
looks_at c xs x y small at is = record { was = x; is = y; there = slice_get_read xs (length xs) c x refl small at; came = is; all = refl }

pub looked_came : (c : ℕ) (xs ys : List CpuStay) → LooksAt c xs ys → AreCame xs ys
looked_came c xs ys is = subst (λ (zs : List CpuStay). AreCame xs zs) (sym is.all) (one_came xs c is.was is.is is.there is.came)

pub same_length : (xs ys : List CpuStay) → AreCame xs ys → length ys ≡ length xs
same_length [] [] is = refl
same_length [] (y ∷ ys) is = absurd is
same_length (x ∷ xs) [] is = absurd is
same_length (x ∷ xs) (y ∷ ys) is = ap suc (same_length xs ys is.1)

pub same_firsts : (xs ys : List CpuStay) → AreCame xs ys → firsts ys ≡ firsts xs
same_firsts [] [] is = refl
same_firsts [] (y ∷ ys) is = absurd is
same_firsts (x ∷ xs) [] is = absurd is
same_firsts (x ∷ xs) (y ∷ ys) is = ap (λ (o : Option CpuSide). o ∷ firsts ys) is.0.first ∙ ap (λ (os : List (Option CpuSide)). x.first ∷ os) (same_firsts xs ys is.1)

-- who is inside stays
pub inside_still : (xs ys : List CpuStay) (k : ℕ) → AreCame xs ys → IsInsideAt k xs → IsInsideAt k ys
inside_still [] [] k is all s at = absurd (subst (λ (o : Option CpuStay). if_some o) (sym at) tt)
inside_still [] (y ∷ ys) k is all s at = absurd is
inside_still (x ∷ xs) [] k is all s at = absurd is
inside_still (x ∷ xs) (y ∷ ys) zero is all s at = subst (λ (t : CpuStay). IsSome t.inside) (ap (λ (o : Option CpuStay). or_this y o) at) (some_still x.inside y.inside is.0.stays (all x refl))
inside_still (x ∷ xs) (y ∷ ys) (suc k) is all s at = inside_still xs ys k is.1 all s at

is_set : (xs : List CpuStay) (c : ℕ) (y : CpuStay) → c < length xs → slice_get (slice_set xs c y) c ≡ Some y
is_set [] c y small = absurd (omega arith)
is_set (z ∷ zs) zero y small = refl
is_set (z ∷ zs) (suc c) y small = is_set zs c y (omega arith)

inside_of : (xs : List CpuStay) (c : ℕ) (s : CpuStay) → slice_get xs c ≡ Some s → inside_at c xs ≡ is_some s.inside
inside_of xs c s at = ap (λ (o : Option CpuStay). option_map_or (λ (x : CpuStay). is_some x.inside) o false) at

-- what a look at one place says
pub looked_inside : (r : Bool) (xs : List CpuStay) (c : ℕ) (y : CpuStay) → c < length xs → r ≡ is_some y.inside → r ≡ inside_at c (slice_set xs c y)
looked_inside r xs c y small e = e ∙ sym (inside_of (slice_set xs c y) c y (is_set xs c y small))

pub is_here : (xs : List CpuStay) (c : ℕ) → inside_at c xs ≡ true → IsInsideAt c xs
is_here xs c e = λ s at. sym (inside_of xs c s at) ∙ e

pub none_here : (xs : List CpuStay) (c : ℕ) → c < length xs → inside_at c xs ≡ false → OneOutside xs
none_here [] c small e = absurd (omega arith)
none_here (x ∷ xs) zero small e = (0, x, refl, none_of x.inside e)
none_here (x ∷ xs) (suc c) small e = let rest = none_here xs c (omega arith) e in (suc rest.0, rest.1, rest.2, rest.3)

pub inside_within : (xs : List CpuStay) (c : ℕ) → inside_at c xs ≡ true → c < length xs
inside_within [] c e = absurd (subst (λ (t : Bool). if_true t) (sym e) tt)
inside_within (x ∷ xs) zero e = omega arith
inside_within (x ∷ xs) (suc c) e = omega (arith, inside_within xs c e)

-- what looks at all of them say
pub all_looked : (xs : List CpuStay) (n : ℕ) → length xs ≡ n → ((k : ℕ) → k < n → IsInsideAt k xs) → AllInside xs
all_looked xs n count all = λ c s at. all c (subst (λ m. c < m) count (slice_get_within xs c s at)) s at

either : {P Q R : Type 0} → P ⊎ Q → (P → R) → (Q → R) → R
either (inl p) f g = f p
either (inr q) f g = g q

below : (k n : ℕ) → k < suc n → (k < n) ⊎ (k ≡ n)
below = grind (arith, nat_tests, either)

-- one more was looked at
pub one_looked : (xs ys : List CpuStay) (n : ℕ) → AreCame xs ys → ((k : ℕ) → k < n → IsInsideAt k xs) → IsInsideAt n ys → (k : ℕ) → k < suc n → IsInsideAt k ys
one_looked xs ys n is all at k small = either (below k n small) (λ s. inside_still xs ys k is (all k s)) (λ e. subst (λ m. IsInsideAt m ys) (sym e) at)

-- what is inside at one place is handed out, or stays as it is
pub one_leaves : {E : Type 0} (shared : Shared) (c : ℕ) (xs : List CpuStay) (x y : CpuStay) (r : Result CpuSide E) → c < length xs → x ≡ slice_index_or xs c x
    → IfOk r (λ out. LeavesPlace shared x out y) → IfOk r (λ out. LeavesOne shared c xs out (slice_set xs c y))
one_leaves shared c xs x y (Err e) small at is = tt
one_leaves shared c xs x y (Ok out) small at is = record { stay = x; left = y; there = slice_get_read xs (length xs) c x refl small at; leaves = is; gone = refl }

pub one_stays : {E : Type 0} (c : ℕ) (xs : List CpuStay) (x y : CpuStay) (r : Result CpuSide E) → x ≡ slice_index_or xs c x → OnErr r (y ≡ x) → OnErr r (slice_set xs c y ≡ xs)
one_stays c xs x y (Err e) at is = set_back xs c x y is at
one_stays c xs x y (Ok out) at is = tt

pub first_at : (xs : List CpuStay) (c : ℕ) (s : CpuStay) → slice_get xs c ≡ Some s → slice_get (firsts xs) c ≡ Some s.first
first_at [] c s at = absurd (subst (λ (o : Option CpuStay). if_some o) (sym at) tt)
first_at (x ∷ xs) zero s at = ap (λ (o : Option CpuStay). Some (or_this x o).first) at
first_at (x ∷ xs) (suc c) s at = first_at xs c s at
