-- How many next words of texts stand among an event's fields, and where a field's name stands.
use Rattle.std.proofs.Common.{◌≡◌, ◌≤◌, ◌<◌, ◌+◌, ◌-◌, ℕ, zero, suc, Bool, true, false, List, [], ◌∷◌, take, drop, refl, ap, sym, ◌∙◌, arith}
use Rattle.std.proofs.lemmas.{Bool.Decides.nat_tests, List.get_or-drop}
use Rattle.std.specs.Prelude.{slice_index_or, if◌then◌else◌}
use Rattle.dspec_ctf_reading.specs.Words.{is_next, next_words, name_place, next_in_front, Kind, Unsigned, Signed, Float, Text, TextNext}

abbrev pub kind_of : List Kind → ℕ → Kind
kind_of ks place = slice_index_or ks place Unsigned

one-most : (k : Kind) → (if is_next k then 1 else 0) ≤ 1
one-most Unsigned = omega arith
one-most Signed = omega arith
one-most Float = omega arith
one-most Text = omega arith
one-most TextNext = omega arith

pub one-more : (n : ℕ) → suc n ≡ n + 1
one-more n = omega arith

pub one-before : (n : ℕ) → 1 + n ≡ suc n
one-before n = omega arith

front-after : (ks : List Kind) (n : ℕ) → next_in_front (drop n ks) ≡ (if is_next (kind_of ks n) then 1 + next_in_front (drop (suc n) ks) else 0)
front-after [] zero = refl
front-after [] (suc n) = refl
front-after (k ∷ ks) zero = refl
front-after (k ∷ ks) (suc n) = front-after ks n

pub next-front : (ks : List Kind) (n : ℕ) → next_in_front (drop n ks) ≡ (if is_next (kind_of ks n) then 1 + next_in_front (drop (n + 1) ks) else 0)
next-front ks n = front-after ks n ∙ ap (λ m. if is_next (kind_of ks n) then 1 + next_in_front (drop m ks) else 0) (one-more n)

step-after : (ks : List Kind) (n : ℕ) → next_words (take (suc n) ks) ≡ next_words (take n ks) + (if is_next (kind_of ks n) then 1 else 0)
step-after [] zero = refl
step-after [] (suc n) = refl
step-after (k ∷ ks) zero = omega arith
step-after (k ∷ ks) (suc n) = omega (arith, step-after ks n)

next-step : (ks : List Kind) (n : ℕ) → next_words (take (n + 1) ks) ≡ next_words (take n ks) + (if is_next (kind_of ks n) then 1 else 0)
next-step ks n = ap (λ m. next_words (take m ks)) (sym (one-more n)) ∙ step-after ks n

next-most : (ks : List Kind) (n : ℕ) → next_words (take n ks) ≤ n
next-most ks zero = omega arith
next-most [] (suc n) = omega arith
next-most (k ∷ ks) (suc n) = omega (arith, one-most k, next-most ks n)

next-parts : (ks : List Kind) (n : ℕ) → next_words ks ≡ next_words (take n ks) + next_words (drop n ks)
next-parts ks zero = omega arith
next-parts [] (suc n) = refl
next-parts (k ∷ ks) (suc n) = omega (arith, next-parts ks n)

next-few : (ks : List Kind) (n m : ℕ) → ((p : ℕ) → is_next (kind_of ks p) ≡ true → n + p < m) → next_words ks ≤ m - n
next-few [] n m within = omega arith
next-few (k ∷ ks) n m within = go (next-few ks (n + 1) m (λ p is. omega (arith, within (suc p) is))) (is_next k) refl
  where
    go : next_words ks ≤ m - (n + 1) → (b : Bool) → is_next k ≡ b → (if b then 1 else 0) + next_words ks ≤ m - n
    go others true is = omega (arith, others, within 0 is)
    go others false is = omega (arith, others)

-- ---- names

pub name-same : (ks : List Kind) (q : ℕ) → is_next (kind_of ks (q + 1)) ≡ true → name_place ks (q + 1) ≡ name_place ks q
name-same ks q is = grind (arith, nat_tests, next-step)

pub name-within : (ks : List Kind) (names m p : ℕ) → names + next_words ks ≡ m → ((q : ℕ) → is_next (kind_of ks q) ≡ true → q < m) → p < m → is_next (kind_of ks p) ≡ false
    → name_place ks p < names
name-within ks names m p all within low is =
    let none : next_words (take (p + 1) ks) ≡ next_words (take p ks) + 0 = next-step ks p ∙ ap (λ b. next_words (take p ks) + (if b then 1 else 0)) is in
    let after : next_words (drop (p + 1) ks) ≤ m - (p + 1) =
    next-few (drop (p + 1) ks) (p + 1) m (λ q at. within (p + 1 + q) (ap is_next (sym (get_or-drop (p + 1) ks q Unsigned)) ∙ at)) in
    omega (arith, all, low, none, after, next-most ks p, next-parts ks (p + 1))
