-- The masks of fields while they are made, field by field.
use Rattle.std.proofs.Common.{◌≡◌, ◌≤◌, ◌<◌, ◌+◌, ◌*◌, ◌/◌, ◌%◌, ◌^◌, ℕ, zero, suc, List, ◌∷◌, length, get_or, drop, set, replicate, refl, sym, ◌∙◌, ap, subst, arith}
use Rattle.std.proofs.Math.Nat.{mul_assoc}
use Rattle.std.proofs.lemmas.{Bool.Decides.nat_tests, List.drop_more, List.drop_all, Nat.pow-add, Nat.shr-shr}
use Rattle.dspec_record.specs.{Words.width, Words.limit, Words.rounded_up, Words.after, Words.mask_number, Words.words_of_number, declared.field.Field.Field, declared.field.Field.TheVariants.One}
use Rattle.dspec_record.proofs.AddingValues.{next-near, place-near, width-some, sum-in-word, sum-below, at-place}
use Rattle.dspec_record.proofs.LittleEndian.{pow_pos256}

-- a number is added to one word, which holds the sum
words_of_number-add : (k j n x : ℕ) → j < k → get_or (words_of_number k n) j 0 + x < 2 ^ 64
    → words_of_number k (n + x * 2 ^ (64 * j)) ≡ set (words_of_number k n) j (get_or (words_of_number k n) j 0 + x)
words_of_number-add zero j n x within holds = absurd (omega arith)
words_of_number-add (suc k) zero n x within holds = grind (arith, nat_tests)
words_of_number-add (suc k) (suc j) n x within holds =
    let q : ℕ = x * 2 ^ (64 * j) in
    let bits : 64 * suc j ≡ 64 * j + 64 = omega arith in
    let moved : x * 2 ^ (64 * suc j) ≡ q * 2 ^ 64 =
    ap (λ b. x * 2 ^ b) bits ∙ ap (λ p. x * p) (pow-add 2 (64 * j) 64) ∙ sym (mul_assoc x (2 ^ (64 * j)) (2 ^ 64)) in
    let first : (n + x * 2 ^ (64 * suc j)) % 2 ^ 64 ≡ n % 2 ^ 64 = omega (arith, moved) in
    let left : (n + x * 2 ^ (64 * suc j)) / 2 ^ 64 ≡ n / 2 ^ 64 + q = omega (arith, moved) in
    let rest : words_of_number k ((n + x * 2 ^ (64 * suc j)) / 2 ^ 64) ≡ set (words_of_number k (n / 2 ^ 64)) j (get_or (words_of_number k (n / 2 ^ 64)) j 0 + x) =
    ap (words_of_number k) left ∙ words_of_number-add k j (n / 2 ^ 64) x (omega arith) holds in
    λ i. first i ∷ rest i

-- a word is no greater than what is left of the number at its place
word-le : (k j n : ℕ) → get_or (words_of_number k n) j 0 ≤ n / 2 ^ (64 * j)
word-le zero j n = omega arith
word-le (suc k) zero n = omega arith
word-le (suc k) (suc j) n =
    let bits : 64 + 64 * j ≡ 64 * suc j = omega arith in
    let left : n / 2 ^ 64 / 2 ^ (64 * j) ≡ n / 2 ^ (64 * suc j) = shr-shr n 64 (64 * j) ∙ ap (λ b. n / 2 ^ b) bits in
    omega (arith, word-le k j (n / 2 ^ 64), left)

-- the masks of the first `i` fields, which end at `end`
pub record AreMasked (i end : ℕ) (masks : List ℕ) (fs : List Field) : Type 0 where
  pub so_far : ℕ
  pub masks_are : masks ≡ words_of_number 9 so_far
  pub whole : so_far + mask_number end (drop i fs) ≡ mask_number 4 fs
  pub below : so_far < 256 ^ end
  pub near : rounded_up end 8 ≤ 8 + 8 * i

pub AreMasked-start : (fs : List Field) → AreMasked 0 4 (replicate 9 0) fs
AreMasked-start fs = record { so_far = 0; masks_are = refl; whole = omega arith; below = omega arith; near = omega arith }

-- a field's place is in one of the nine words
pub AreMasked-place : (i end place : ℕ) (masks : List ℕ) (fs : List Field) → i < length fs → length fs ≤ 8 → AreMasked i end masks fs → place ≡ rounded_up end (width (get_or fs i One)) → place / 8 < 9
AreMasked-place i end place masks fs within few is at = grind (arith, nat_tests, place-near, width-some)

-- with this field's mask its word still holds the sum
sum-fits : (f : Field) (end n place : ℕ) → n < 256 ^ end → place ≡ rounded_up end (width f)
    → get_or (words_of_number 9 n) (place / 8) 0 + limit f * 2 ^ (place % 8 * 8) < 2 ^ 64
sum-fits f end n place below at =
    let most : limit f < 256 ^ width f = omega (arith, pow_pos256 (width f)) in
    sum-in-word f (limit f) end n (get_or (words_of_number 9 n) (place / 8) 0) place most below at (word-le 9 (place / 8) n)

-- so the shift loses no bit of it
pub AreMasked-shifted : (f : Field) (end place : ℕ) → place ≡ rounded_up end (width f) → limit f * 2 ^ (place % 8 * 8) < 2 ^ 64
AreMasked-shifted f end place at = omega (arith, sum-fits f end 0 place (pow_pos256 end) at)

-- nor does the sum
pub AreMasked-room : (i end place : ℕ) (masks : List ℕ) (fs : List Field) → AreMasked i end masks fs → place ≡ rounded_up end (width (get_or fs i One))
    → get_or masks (place / 8) 0 + limit (get_or fs i One) * 2 ^ (place % 8 * 8) < 2 ^ 64
AreMasked-room i end place masks fs is at =
    let f : Field = get_or fs i One in
    let Fits : List ℕ → Type 0 = λ ms. get_or ms (place / 8) 0 + limit f * 2 ^ (place % 8 * 8) < 2 ^ 64 in
    subst Fits (sym is.masks_are) (sum-fits f end is.so_far place is.below at)

pub AreMasked-next : (i end place : ℕ) (masks : List ℕ) (fs : List Field) → i < length fs → length fs ≤ 8 → AreMasked i end masks fs → place ≡ rounded_up end (width (get_or fs i One))
    → AreMasked (i + 1) (place + width (get_or fs i One)) (set masks (place / 8) (get_or masks (place / 8) 0 + limit (get_or fs i One) * 2 ^ (place % 8 * 8))) fs
AreMasked-next i end place masks fs within few is at =
    let f : Field = get_or fs i One in
    let n : ℕ = is.so_far in
    let x : ℕ = limit f * 2 ^ (place % 8 * 8) in
    let j : ℕ = place / 8 in
    let room : j < 9 = AreMasked-place i end place masks fs within few is at in
    let words : set masks j (get_or masks j 0 + x) ≡ words_of_number 9 (n + limit f * 256 ^ place) =
    ap (λ ms. set ms j (get_or ms j 0 + x)) is.masks_are
    ∙ sym (words_of_number-add 9 j n x room (sum-fits f end n place is.below at))
    ∙ ap (λ y. words_of_number 9 (n + y)) (at-place (limit f) place) in
    let more : mask_number end (drop i fs) ≡ limit f * 256 ^ rounded_up end (width f) + mask_number (after end (width f) (width f)) (drop (i + 1) fs) =
    ap (mask_number end) (drop_more fs i One within) in
    let here : limit f * 256 ^ rounded_up end (width f) ≡ limit f * 256 ^ place = ap (λ p. limit f * 256 ^ p) (sym at) in
    let next : after end (width f) (width f) ≡ place + width f = ap (λ p. p + width f) (sym at) in
    let rest : mask_number (after end (width f) (width f)) (drop (i + 1) fs) ≡ mask_number (place + width f) (drop (i + 1) fs) =
    ap (λ e. mask_number e (drop (i + 1) fs)) next in
    let most : limit f < 256 ^ width f = omega (arith, pow_pos256 (width f)) in
    record {
      so_far = n + limit f * 256 ^ place;
      masks_are = words;
      whole = omega (arith, is.whole, more, here, rest);
      below = sum-below f (limit f) end n place most is.below at;
      near = subst (λ e. rounded_up e 8 ≤ 8 + 8 * (i + 1)) next (omega (arith, is.near, next-near f end));
    }

-- after the last field they are whole
pub AreMasked-end : (i end : ℕ) (masks : List ℕ) (fs : List Field) → length fs ≤ i → AreMasked i end masks fs → masks ≡ words_of_number 9 (mask_number 4 fs)
AreMasked-end i end masks fs past is = grind (arith, nat_tests, drop_all)
