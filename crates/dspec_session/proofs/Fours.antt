-- Lists of four.
use Rattle.std.proofs.Common.{◌≡◌, ℕ, zero, suc, ◌+◌, ◌<◌, ◌≤◌, List, [], ◌∷◌, ◌++◌, length, Some, refl, ap, ◌∙◌, subst, arith}
use Rattle.std.specs.Prelude.{remove, slice_get, slice_index_or}

-- what was removed from the front stood there
pub front : {A : Type 0} (xs ys : List A) (a : A) (n : ℕ) → length xs ≡ suc n → a ≡ slice_index_or xs 0 a → ys ≡ remove xs 0 → (xs ≡ a ∷ ys) × (length ys ≡ n)
front [] ys a n count is left = absurd (omega arith)
front (x ∷ xs) ys a n count is left = (cc (is, left), (let e = ap length left in omega arith))

none : {A : Type 0} (xs : List A) → length xs ≡ 0 → xs ≡ []
none [] e = refl
none (x ∷ xs) e = absurd (omega arith)

-- what holds of each of four holds at each place
pub at_each : {A : Type 0} (P : ℕ → A → Type 0) (a b c d : A) → P 0 a → P 1 b → P 2 c → P 3 d → (i : ℕ) (x : A) → slice_get (a ∷ b ∷ c ∷ d ∷ []) i ≡ Some x → P i x
at_each P a b c d p q r s zero x e = subst (P 0) (cc (e)) p
at_each P a b c d p q r s (suc zero) x e = subst (P 1) (cc (e)) q
at_each P a b c d p q r s (suc (suc zero)) x e = subst (P 2) (cc (e)) r
at_each P a b c d p q r s (suc (suc (suc zero))) x e = subst (P 3) (cc (e)) s
at_each P a b c d p q r s (suc (suc (suc (suc i)))) x e = absurd (cc (e))

-- so four that were removed from the front of a list of four are all of it
pub all_four : {A : Type 0} (xs ys zs us vs : List A) (a b c d : A) → length xs ≡ 4
    → a ≡ slice_index_or xs 0 a → ys ≡ remove xs 0 → b ≡ slice_index_or ys 0 b → zs ≡ remove ys 0 → c ≡ slice_index_or zs 0 c → us ≡ remove zs 0 → d ≡ slice_index_or us 0 d → vs ≡ remove us 0
    → (xs ≡ a ∷ b ∷ c ∷ d ∷ []) × (vs ≡ [])
all_four xs ys zs us vs a b c d count a_is ys_is b_is zs_is c_is us_is d_is vs_is =
    let e = front xs ys a 3 count a_is ys_is in
    let f = front ys zs b 2 e.1 b_is zs_is in
    let g = front zs us c 1 f.1 c_is us_is in
    let h = front us vs d 0 g.1 d_is vs_is in
    let n = none vs h.1 in
    (e.0 ∙ ap (λ l. a ∷ l) (f.0 ∙ ap (λ l. b ∷ l) (g.0 ∙ ap (λ l. c ∷ l) (h.0 ∙ ap (λ l. d ∷ l) n))), n)

-- what four were pushed to, where nothing stood
pub four_pushed : {A : Type 0} (xs ys zs us vs : List A) (a b c d : A) → xs ≡ [] → ys ≡ xs ++ a ∷ [] → zs ≡ ys ++ b ∷ [] → us ≡ zs ++ c ∷ [] → vs ≡ us ++ d ∷ []
    → vs ≡ a ∷ b ∷ c ∷ d ∷ []
four_pushed xs ys zs us vs a b c d none first second third fourth =
    let one : ys ≡ a ∷ [] = first ∙ ap (λ l. l ++ a ∷ []) none in
    let two : zs ≡ a ∷ b ∷ [] = second ∙ ap (λ l. l ++ b ∷ []) one in
    let three : us ≡ a ∷ b ∷ c ∷ [] = third ∙ ap (λ l. l ++ c ∷ []) two in
    fourth ∙ ap (λ l. l ++ d ∷ []) three

-- a push took one of the places that were free, and one more has a place while one is
pub one_less : (length room length_then room_then free : ℕ) → suc free + length ≤ room → length_then ≡ length + 1 → room ≤ room_then → free + length_then ≤ room_then
one_less length room length_then room_then free a b c = omega arith

pub has_place : (length room free : ℕ) → suc free + length ≤ room → length < room
has_place length room free a = omega arith

pub all_free : {A : Type 0} (xs : List A) (n room : ℕ) → n ≡ length xs → xs ≡ [] → 4 ≤ room → 4 + n ≤ room
all_free xs n room count none fits = let e : length xs ≡ 0 = ap length none in omega arith
