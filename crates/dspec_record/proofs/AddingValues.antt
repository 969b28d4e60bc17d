-- Values that are added to words, each at its field's place.
use Rattle.std.proofs.Common.{◌≡◌, ◌≤◌, ◌<◌, ◌+◌, ◌*◌, ◌/◌, ◌%◌, ◌^◌, ℕ, zero, suc, All, List, [], ◌∷◌, length, get_or, set, refl, sym, ◌∙◌, ap, subst, arith}
use Rattle.std.proofs.Math.Nat.{mul_assoc, pow-le-pow_right}
use Rattle.std.proofs.lemmas.{Bool.Decides.nat_tests, List.Elements.All-head, List.Elements.All-tail, Nat.pow-add, Nat.shr_below, Nat.shr-shr, Nat.mul-add-lt}
use Rattle.dspec_record.specs.Words.{width, rounded_up, after, number_of_words, rounded_up-ge}
use Rattle.dspec_record.specs.declared.field.Field.{Field, TheVariants.One, TheVariants.Two, TheVariants.Four, TheVariants.Eight}
use Rattle.dspec_record.proofs.{LittleEndian.pow-add256, Masking.pow256}

-- ---- places

-- a field stands within one word
pub within-word : (f : Field) (end : ℕ) → rounded_up end (width f) % 8 + width f ≤ 8
within-word One end = omega arith
within-word Two end = omega arith
within-word Four end = omega arith
within-word Eight end = omega arith

pub next-near : (f : Field) (end : ℕ) → rounded_up (after end (width f) (width f)) 8 ≤ rounded_up end 8 + 8
next-near One end = omega arith
next-near Two end = omega arith
next-near Four end = omega arith
next-near Eight end = omega arith

pub place-near : (f : Field) (end : ℕ) → rounded_up end (width f) + width f ≤ rounded_up end 8 + 8
place-near One end = omega arith
place-near Two end = omega arith
place-near Four end = omega arith
place-near Eight end = omega arith

pub width-some : (f : Field) → 1 ≤ width f
width-some One = omega arith
width-some Two = omega arith
width-some Four = omega arith
width-some Eight = omega arith

-- ---- sums

-- a value after a number of so many bytes: its word still holds the sum
pub sum-in-word : (f : Field) (v end n word place : ℕ) → v < 256 ^ width f → n < 256 ^ end → place ≡ rounded_up end (width f) → word ≤ n / 2 ^ (64 * (place / 8))
    → word + v * 2 ^ (place % 8 * 8) < 2 ^ 64
sum-in-word f v end n word place holds below at held =
    let bits : ℕ = place % 8 * 8 in
    let high : ℕ = 64 * (place / 8) in
    let low : end ≤ place = omega (arith, at, rounded_up-ge f end) in
    let up : 256 ^ end ≤ 256 ^ place = pow-le-pow_right (omega arith) low in
    let all_bits : 8 * place ≡ bits + high = omega arith in
    let split : 256 ^ place ≡ 2 ^ (bits + high) = pow256 place ∙ ap (λ b. 2 ^ b) all_bits in
    let left : n / 2 ^ high < 2 ^ bits = shr_below n bits high (omega (arith, below, up, split)) in
    let old : word < 2 ^ bits = omega (arith, held, left) in
    let sum : v * 2 ^ bits + word < 2 ^ bits * 256 ^ width f = mul-add-lt v (2 ^ bits) word (256 ^ width f) holds old in
    let wide : 2 ^ bits * 256 ^ width f ≡ 2 ^ (bits + 8 * width f) =
    ap (λ p. 2 ^ bits * p) (pow256 (width f)) ∙ sym (pow-add 2 bits (8 * width f)) in
    let inside : place % 8 + width f ≤ 8 = subst (λ p. p % 8 + width f ≤ 8) (sym at) (within-word f end) in
    let few : bits + 8 * width f ≤ 64 = omega (arith, inside) in
    let most : 2 ^ (bits + 8 * width f) ≤ 2 ^ 64 = pow-le-pow_right {n = 2} (omega arith) {i = bits + 8 * width f} {j = 64} few in
    omega (arith, sum, wide, most)

-- a value that is shifted to its bits, and its word to its place, stands at its place
pub at-place : (v place : ℕ) → v * 2 ^ (place % 8 * 8) * 2 ^ (64 * (place / 8)) ≡ v * 256 ^ place
at-place v place = grind (arith, nat_tests, mul_assoc v (2 ^ (place % 8 * 8)) (2 ^ (64 * (place / 8))), pow-add 2 (place % 8 * 8) (64 * (place / 8)), pow256 place)

-- with a value the number has no more bytes than up to the field's end
pub sum-below : (f : Field) (v end n place : ℕ) → v < 256 ^ width f → n < 256 ^ end → place ≡ rounded_up end (width f) → n + v * 256 ^ place < 256 ^ (place + width f)
sum-below f v end n place holds below at =
    let low : end ≤ place = omega (arith, at, rounded_up-ge f end) in
    let up : 256 ^ end ≤ 256 ^ place = pow-le-pow_right (omega arith) low in
    let small : v * 256 ^ place + n < 256 ^ place * 256 ^ width f = mul-add-lt v (256 ^ place) n (256 ^ width f) holds (omega (arith, up, below)) in
    omega (arith, small, pow-add256 place (width f) (place + width f) refl)

-- ---- words

-- a word is no greater than what is left of the number at its place
word-held : (j : ℕ) (ws : List ℕ) → All (λ w. w < 2 ^ 64) ws → get_or ws j 0 ≤ number_of_words ws / 2 ^ (64 * j)
word-held j [] small = omega arith
word-held zero (w ∷ ws) small = omega arith
word-held (suc j) (w ∷ ws) small =
    let P : ℕ → Type 0 = λ x. x < 2 ^ 64 in
    let n : ℕ = w + 2 ^ 64 * number_of_words ws in
    let first : w < 2 ^ 64 = All-head P w ws small in
    let bits : 64 + 64 * j ≡ 64 * suc j = omega arith in
    let left : n / 2 ^ 64 ≡ number_of_words ws = omega (arith, first) in
    let rest : number_of_words ws / 2 ^ (64 * j) ≡ n / 2 ^ (64 * suc j) = ap (λ m. m / 2 ^ (64 * j)) (sym left) ∙ shr-shr n 64 (64 * j) ∙ ap (λ b. n / 2 ^ b) bits in
    omega (arith, word-held j ws (All-tail P w ws small), rest)

-- what is added to a word is added to the number at the word's place
number_of_words-add : (j x : ℕ) (ws : List ℕ) → j < length ws → number_of_words (set ws j (get_or ws j 0 + x)) ≡ number_of_words ws + x * 2 ^ (64 * j)
number_of_words-add j x [] within = absurd (omega arith)
number_of_words-add zero x (w ∷ ws) within = omega arith
number_of_words-add (suc j) x (w ∷ ws) within =
    let q : ℕ = x * 2 ^ (64 * j) in
    let bits : 64 * suc j ≡ 64 * j + 64 = omega arith in
    let moved : x * 2 ^ (64 * suc j) ≡ q * 2 ^ 64 =
    ap (λ b. x * 2 ^ b) bits ∙ ap (λ p. x * p) (pow-add 2 (64 * j) 64) ∙ sym (mul_assoc x (2 ^ (64 * j)) (2 ^ 64)) in
    omega (arith, moved, number_of_words-add j x ws (omega arith))

-- a field after `end` stands in one of nine words
pub word-within : (f : Field) (end place : ℕ) → rounded_up end 8 ≤ 64 → place ≡ rounded_up end (width f) → place / 8 < 9
word-within f end place near at = omega (arith, at, near, place-near f end, width-some f)

-- its word has room for a value
pub value-room : (f : Field) (v end place : ℕ) (ws : List ℕ) → v < 256 ^ width f → number_of_words ws < 256 ^ end → place ≡ rounded_up end (width f) → All (λ w. w < 2 ^ 64) ws
    → get_or ws (place / 8) 0 + v * 2 ^ (place % 8 * 8) < 2 ^ 64
value-room f v end place ws holds below at small =
    sum-in-word f v end (number_of_words ws) (get_or ws (place / 8) 0) place holds below at (word-held (place / 8) ws small)

-- so the shift loses no bit of it
pub value-shifted : (f : Field) (v end place : ℕ) → v < 256 ^ width f → place ≡ rounded_up end (width f) → v * 2 ^ (place % 8 * 8) < 2 ^ 64
value-shifted f v end place holds at = omega (arith, sum-in-word f v end 0 0 place holds (one-le end) at (omega arith))
  where
    one-le : (k : ℕ) → 0 < 256 ^ k
    one-le k = pow-le-pow_right {n = 256} (omega arith) {i = 0} {j = k} (omega arith)

-- and with it the words are the number with the value at the field's place
pub value-added : (f : Field) (v end place : ℕ) (ws : List ℕ) → length ws ≡ 9 → rounded_up end 8 ≤ 64 → place ≡ rounded_up end (width f)
    → number_of_words (set ws (place / 8) (get_or ws (place / 8) 0 + v * 2 ^ (place % 8 * 8))) ≡ number_of_words ws + v * 256 ^ rounded_up end (width f)
value-added f v end place ws nine near at = grind (arith, nat_tests, number_of_words-add, word-within, at-place)
