-- Fields that are cut out of words one by one.
use Rattle.std.proofs.Common.{◌≡◌, ◌≤◌, ◌<◌, ◌+◌, ◌-◌, ◌*◌, ◌/◌, ◌%◌, ◌^◌, ◌++◌, ℕ, zero, suc, All, List, [], ◌∷◌, length, get_or, drop, refl, sym, ◌∙◌, ap, arith}
use Rattle.std.proofs.Math.Pow.{mod-mod-pow}
use Rattle.std.proofs.lemmas.{Bool.Decides.nat_tests, List.append_assoc, List.append-nil, List.length-append, List.drop_more, List.drop_all, List.Elements.All-head, List.Elements.All-tail}
use Rattle.std.proofs.lemmas.{Nat.shr-shr, Nat.field_of, Nat.and_mask}
use Rattle.std.specs.Int.RustNames.{bit_and}
use Rattle.dspec_record.specs.Words.{width, limit, rounded_up, after, fields_end, number_of_words, cuts, words_in, fields_end-ge}
use Rattle.dspec_record.specs.declared.field.Field.{Field, TheVariants.One, TheVariants.Two, TheVariants.Four, TheVariants.Eight}
use Rattle.dspec_record.proofs.Masking.{pow256, ends-within}

-- a word of a number
word-at : (ws : List ℕ) (j : ℕ) → All (λ w. w < 2 ^ 64) ws → j < length ws → number_of_words ws / 2 ^ (64 * j) % 2 ^ 64 ≡ get_or ws j 0
word-at [] j small within = absurd (omega arith)
word-at (w ∷ ws) zero small within = grind (arith, nat_tests, All-head)
word-at (w ∷ ws) (suc j) small within =
    let P : ℕ → Type 0 = λ x. x < 2 ^ 64 in
    let n : ℕ = number_of_words ws in
    let below : w < 2 ^ 64 = All-head P w ws small in
    let bits : 64 + 64 * j ≡ 64 * suc j = omega arith in
    let rest : (w + 2 ^ 64 * n) / 2 ^ 64 ≡ n = omega (arith, below) in
    let left : (w + 2 ^ 64 * n) / 2 ^ (64 * suc j) ≡ n / 2 ^ (64 * j) =
    ap (λ b. (w + 2 ^ 64 * n) / 2 ^ b) (sym bits) ∙ sym (shr-shr (w + 2 ^ 64 * n) 64 (64 * j)) ∙ ap (λ m. m / 2 ^ (64 * j)) rest in
    ap (λ m. m % 2 ^ 64) left ∙ word-at ws j (All-tail P w ws small) (omega arith)

-- so many bits from `low` on, of a number whose word has them
bits-of_word : (n low many : ℕ) → low + many ≤ 64 → n % 2 ^ 64 / 2 ^ low % 2 ^ many ≡ n / 2 ^ low % 2 ^ many
bits-of_word n low many fit =
    let high : ℕ = 64 - (low + many) in
    let word : 64 ≡ high + many + low = omega arith in
    ap (λ b. n % 2 ^ b / 2 ^ low % 2 ^ many) word
    ∙ ap (λ x. x % 2 ^ many) (field_of n (high + many) low)
    ∙ mod-mod-pow (n / 2 ^ low) high many

within-word : (f : Field) (place : ℕ) → place % width f ≡ 0 → place % 8 + width f ≤ 8
within-word One place whole = omega (arith, whole)
within-word Two place whole = omega (arith, whole)
within-word Four place whole = omega (arith, whole)
within-word Eight place whole = omega (arith, whole)

-- the bits of a field are what its limit has
limit-cuts : (f : Field) (n : ℕ) → bit_and n (limit f) ≡ n % 256 ^ width f
limit-cuts One n = and_mask n 8
limit-cuts Two n = and_mask n 16
limit-cuts Four n = and_mask n 32
limit-cuts Eight n = and_mask n 64

-- a field that is cut out of its word is cut out of the number
pub cut-word : (ws : List ℕ) (p : ℕ) (f : Field) → All (λ w. w < 2 ^ 64) ws → p % width f ≡ 0 → p / 8 < length ws
    → bit_and (get_or ws (p / 8) 0 / 2 ^ (p % 8 * 8)) (limit f) ≡ number_of_words ws / 256 ^ p % 256 ^ width f
cut-word ws p f small whole within =
    let n : ℕ = number_of_words ws in
    let high : ℕ = 64 * (p / 8) in
    let low : ℕ = p % 8 * 8 in
    let bits : ℕ = 8 * width f in
    let fit : low + bits ≤ 64 = omega (arith, within-word f p whole) in
    let wide : 256 ^ width f ≡ 2 ^ bits = pow256 (width f) in
    let all_bits : high + low ≡ 8 * p = omega arith in
    let place : n / 2 ^ high / 2 ^ low ≡ n / 256 ^ p =
    shr-shr n high low ∙ ap (λ b. n / 2 ^ b) all_bits ∙ ap (λ q. n / q) (sym (pow256 p)) in
    limit-cuts f (get_or ws (p / 8) 0 / 2 ^ low)
    ∙ ap (λ w. w / 2 ^ low % 256 ^ width f) (sym (word-at ws (p / 8) small within))
    ∙ ap (λ q. n / 2 ^ high % 2 ^ 64 / 2 ^ low % q) wide
    ∙ bits-of_word (n / 2 ^ high) low bits fit
    ∙ ap (λ m. m % 2 ^ bits) place
    ∙ ap (λ q. n / 256 ^ p % q) (sym wide)

pub place-whole : (f : Field) (end : ℕ) → rounded_up end (width f) % width f ≡ 0
place-whole One end = omega arith
place-whole Two end = omega arith
place-whole Four end = omega arith
place-whole Eight end = omega arith

-- the values of the first `i` fields, which end at `end`, are cut out of a number
pub record AreCut (i end : ℕ) (vs : List ℕ) (fs : List Field) (n : ℕ) : Type 0 where
  pub cut : vs ++ cuts end (drop i fs) n ≡ cuts 4 fs n
  pub many : length vs ≡ i
  pub ends : fields_end end (drop i fs) ≡ fields_end 4 fs

pub AreCut-start : (fs : List Field) (n : ℕ) → AreCut 0 4 [] fs n
AreCut-start fs n = record { cut = refl; many = refl; ends = refl }

pub AreCut-next : (i end : ℕ) (vs : List ℕ) (fs : List Field) (n v : ℕ) → i < length fs → AreCut i end vs fs n
    → v ≡ n / 256 ^ rounded_up end (width (get_or fs i One)) % 256 ^ width (get_or fs i One)
    → AreCut (i + 1) (after end (width (get_or fs i One)) (width (get_or fs i One))) (vs ++ v ∷ []) fs n
AreCut-next i end vs fs n v within is value = grind (arith, nat_tests, drop_more, append_assoc, length-append)

words-hold : (fs : List Field) → 0 < length fs → fields_end 4 fs ≤ 8 * words_in fs
words-hold [] some = absurd (omega arith)
words-hold (f ∷ fs) some = omega arith

next-ends : (i end : ℕ) (vs : List ℕ) (fs : List Field) (n : ℕ) → i < length fs → AreCut i end vs fs n → after end (width (get_or fs i One)) (width (get_or fs i One)) ≤ fields_end 4 fs
next-ends i end vs fs n within is =
    let f : Field = get_or fs i One in
    let next : ℕ = after end (width f) (width f) in
    let more : fields_end end (drop i fs) ≡ fields_end next (drop (i + 1) fs) = ap (fields_end end) (drop_more fs i One within) in
    omega (arith, is.ends, more, fields_end-ge next (drop (i + 1) fs))

-- the next field stands in one of the words
pub AreCut-place : (i end : ℕ) (vs : List ℕ) (fs : List Field) (n : ℕ) → i < length fs → AreCut i end vs fs n → rounded_up end (width (get_or fs i One)) / 8 < words_in fs
AreCut-place i end vs fs n within is = grind (arith, nat_tests, next-ends i end vs fs n within is)

pub AreCut-near : (i end : ℕ) (vs : List ℕ) (fs : List Field) (n : ℕ) → length fs ≤ 8 → AreCut i end vs fs n → end ≤ 72
AreCut-near i end vs fs n few is = omega (arith, is.ends, fields_end-ge end (drop i fs), ends-within fs few)

-- a value that is cut out of its word is the next
pub AreCut-value : (i end : ℕ) (vs ws : List ℕ) (fs : List Field) → i < length fs → All (λ w. w < 2 ^ 64) ws → length ws ≡ words_in fs → AreCut i end vs fs (number_of_words ws)
    → bit_and (get_or ws (rounded_up end (width (get_or fs i One)) / 8) 0 / 2 ^ (rounded_up end (width (get_or fs i One)) % 8 * 8)) (limit (get_or fs i One))
    ≡ number_of_words ws / 256 ^ rounded_up end (width (get_or fs i One)) % 256 ^ width (get_or fs i One)
AreCut-value i end vs ws fs within small count is = grind (arith, nat_tests, cut-word, place-whole, AreCut-place)

-- after the last field they are all
pub AreCut-end : (i end : ℕ) (vs : List ℕ) (fs : List Field) (n : ℕ) → length fs ≤ i → AreCut i end vs fs n → vs ≡ cuts 4 fs n
AreCut-end i end vs fs n past is =
    sym (append-nil vs) ∙ ap (λ gs. vs ++ cuts end gs n) (sym (drop_all i fs past)) ∙ is.cut
