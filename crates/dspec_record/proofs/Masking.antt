-- Words of which a mask has cleared what is no field: they are clean, and stand for the same record.
use Rattle.std.proofs.Common.{◌≡◌, ◌≤◌, ◌<◌, ◌+◌, ◌-◌, ◌*◌, ◌/◌, ◌%◌, ◌^◌, ℕ, zero, suc, IsTrue, All, List, [], ◌∷◌, length, map, get_or, refl, sym, ◌∙◌, ap, ap₂, subst, arith}
use Rattle.std.proofs.Math.Nat.{div-add-mod', mod-lt, mod-mod, pow-suc, pow-le-pow_right}
use Rattle.std.proofs.lemmas.{Bool.lt-ltb, Bool.Decides.nat_tests, List.ext_get_or, List.Elements.All-nil, List.Elements.All-cons, List.Elements.All-head, List.Elements.All-tail, Nat.pow_pos}
use Rattle.std.proofs.lemmas.{Nat.and_block, Nat.and_mask, Nat.and_comm, Nat.pow-add, Nat.shr_below}
use Rattle.std.specs.Int.RustNames.{bit_and}
use Rattle.dspec_record.specs.Words.{width, limit, rounded_up, after, fields_end, layout, fits, number_of_words, cuts, packed_record, words_in, mask_number, words_of_number, masks_for, masked_words}
use Rattle.dspec_record.specs.Words.{IsClean, rounded_up-ge, fields_end-le}
use Rattle.dspec_record.specs.declared.field.Field.{Field}
use Rattle.dspec_record.proofs.{Cutting.packed, Cutting.cuts_fit, LittleEndian.pow_pos256, LittleEndian.div-more, PackedValues.value_number-packed, PackedValues.value_number-below}
use Rattle.dspec_record.proofs.{PackedValues.record-of_number, PackedValues.clean-of_number}
use Rattle.dspec_record.specs.declared.header.Header.TheVariants as header

-- ---- words

-- the words of a number are that number
pub number_of_words-words_of_number : (k n : ℕ) → n < 2 ^ (64 * k) → number_of_words (words_of_number k n) ≡ n
number_of_words-words_of_number zero n below = omega arith
number_of_words-words_of_number (suc k) n below =
    let bits : 64 * suc k ≡ 64 * k + 64 = omega arith in
    let Below : ℕ → Type 0 = λ b. n < 2 ^ b in
    let less : n / 2 ^ 64 < 2 ^ (64 * k) = shr_below n (64 * k) 64 (subst Below bits below) in
    let rest : number_of_words (words_of_number k (n / 2 ^ 64)) ≡ n / 2 ^ 64 = number_of_words-words_of_number k (n / 2 ^ 64) less in
    omega (arith, rest)

pub length-words_of_number : (k n : ℕ) → length (words_of_number k n) ≡ k
length-words_of_number zero n = refl
length-words_of_number (suc k) n = ap suc (length-words_of_number k (n / 2 ^ 64))

pub All-words_of_number : (k n : ℕ) → All (λ w. w < 2 ^ 64) (words_of_number k n)
All-words_of_number zero n = All-nil (λ w. w < 2 ^ 64)
All-words_of_number (suc k) n =
    All-cons (λ w. w < 2 ^ 64) (n % 2 ^ 64) (words_of_number k (n / 2 ^ 64)) (mod-lt n (pow_pos 64)) (All-words_of_number k (n / 2 ^ 64))

pub length-masked_words : (ws ms : List ℕ) → length ws ≤ length ms → length (masked_words ws ms) ≡ length ws
length-masked_words [] ms few = refl
length-masked_words (w ∷ ws) [] few = absurd (omega arith)
length-masked_words (w ∷ ws) (m ∷ ms) few = ap suc (length-masked_words ws ms (omega arith))

get_or-masked_words : (ws ms : List ℕ) (i : ℕ) → length ws ≤ length ms → i < length ws → get_or (masked_words ws ms) i 0 ≡ bit_and (get_or ws i 0) (get_or ms i 0)
get_or-masked_words [] ms i few within = absurd (omega arith)
get_or-masked_words (w ∷ ws) [] i few within = absurd (omega arith)
get_or-masked_words (w ∷ ws) (m ∷ ms) zero few within = refl
get_or-masked_words (w ∷ ws) (m ∷ ms) (suc i) few within = get_or-masked_words ws ms i (omega arith) (omega arith)

-- each word is known by its place
pub masked_words-is : (ws ms zs : List ℕ) → length ws ≤ length ms → length zs ≡ length ws
    → ((i : ℕ) → i < length ws → get_or zs i 0 ≡ bit_and (get_or ws i 0) (get_or ms i 0)) → zs ≡ masked_words ws ms
masked_words-is ws ms zs few many each =
    ext_get_or 0 zs (masked_words ws ms) (many ∙ sym (length-masked_words ws ms few)) (
    λ i within. each i (omega (arith, many)) ∙ sym (get_or-masked_words ws ms i few (omega (arith, many))))

and-zero : (n : ℕ) → bit_and n 0 ≡ 0
and-zero n = and_comm n 0

-- words that are masked one by one are masked as one number
number_of_words-masked : (ws ms : List ℕ) → All (λ w. w < 2 ^ 64) ws → All (λ w. w < 2 ^ 64) ms → length ws ≤ length ms
    → number_of_words (masked_words ws ms) ≡ bit_and (number_of_words ws) (number_of_words ms)
number_of_words-masked [] ms small masks few = refl
number_of_words-masked (w ∷ ws) [] small masks few = absurd (omega arith)
number_of_words-masked (w ∷ ws) (m ∷ ms) small masks few =
    let P : ℕ → Type 0 = λ x. x < 2 ^ 64 in
    let a : ℕ = number_of_words ws in
    let b : ℕ = number_of_words ms in
    let rest : number_of_words (masked_words ws ms) ≡ bit_and a b =
    number_of_words-masked ws ms (All-tail P w ws small) (All-tail P m ms masks) (omega arith) in
    let turned : (x y : ℕ) → x + 2 ^ 64 * y ≡ y * 2 ^ 64 + x = λ x y. omega arith in
    ap (λ n. bit_and w m + 2 ^ 64 * n) rest
    ∙ turned (bit_and w m) (bit_and a b)
    ∙ sym (and_block 64 a b w m (All-head P w ws small) (All-head P m ms masks))
    ∙ ap₂ bit_and (sym (turned w a)) (sym (turned m b))

-- ---- masks

pub pow256 : (k : ℕ) → 256 ^ k ≡ 2 ^ (8 * k)
pow256 zero = refl
pow256 (suc k) =
    let bits : 8 * k + 8 ≡ 8 * suc k = omega arith in
    pow-suc 256 k ∙ ap (λ p. p * 256) (pow256 k) ∙ sym (pow-add 2 (8 * k) 8) ∙ ap (λ b. 2 ^ b) bits

-- a mask in blocks of so many bits
and-block_mask : (k n m low : ℕ) → low < 2 ^ k → bit_and n (m * 2 ^ k + low) ≡ bit_and (n / 2 ^ k) m * 2 ^ k + bit_and (n % 2 ^ k) low
and-block_mask k n m low below = grind (arith, nat_tests, div-add-mod' n (2 ^ k), and_block k (n / 2 ^ k) m (n % 2 ^ k) low (mod-lt n (pow_pos k)) below, mod-lt n (pow_pos k), pow_pos k)

abbrev AboveMask : ℕ → Type 0
AboveMask p = (n m : ℕ) → bit_and n (m * p) ≡ bit_and (n / p) m * p

-- what is below a mask is cleared
and-above : (k : ℕ) → AboveMask (256 ^ k)
and-above k =
    let Above : ℕ → Type 0 = λ p. (n m : ℕ) → bit_and n (m * p) ≡ bit_and (n / p) m * p in
    subst Above (sym (pow256 k)) (λ n m. in_bits (8 * k) n m)
  where
    in_bits : (b n m : ℕ) → bit_and n (m * 2 ^ b) ≡ bit_and (n / 2 ^ b) m * 2 ^ b
    in_bits b n m =
        let none : m * 2 ^ b ≡ m * 2 ^ b + 0 = omega arith in
        let left : bit_and (n % 2 ^ b) 0 ≡ 0 = and-zero (n % 2 ^ b) in
        ap (bit_and n) none ∙ and-block_mask b n m 0 (pow_pos b) ∙ omega (arith, left)

-- what a mask has whole is kept
and-field : (k n m : ℕ) → bit_and n (m * 256 ^ k + (256 ^ k - 1)) ≡ bit_and (n / 256 ^ k) m * 256 ^ k + n % 256 ^ k
and-field k n m = grind (arith, nat_tests, pow256, pow_pos, and_mask, mod-mod, and-block_mask)

-- a number under the mask of the fields is the number of the fields that are cut out of it
masked : (start : ℕ) (fs : List Field) (n : ℕ) → bit_and (n / 256 ^ start) (packed start fs (map limit fs)) ≡ packed start fs (cuts start fs n)
masked start [] n = and-zero (n / 256 ^ start)
masked start (f ∷ fs) n =
    let w : ℕ = width f in
    let place : ℕ = rounded_up start w in
    let next : ℕ = after start w w in
    let hole : ℕ = place - start in
    let rest : ℕ = packed next fs (map limit fs) in
    let to_place : start + hole ≡ place = omega (arith, rounded_up-ge f start) in
    let here : n / 256 ^ start / 256 ^ hole ≡ n / 256 ^ place = div-more start hole place n to_place in
    let later : n / 256 ^ place / 256 ^ w ≡ n / 256 ^ next = div-more place w next n refl in
    let above : AboveMask (256 ^ hole) = and-above hole in
    above (n / 256 ^ start) (rest * 256 ^ w + limit f)
    ∙ ap (λ x. bit_and x (rest * 256 ^ w + limit f) * 256 ^ hole) here
    ∙ ap (λ x. x * 256 ^ hole) (and-field w (n / 256 ^ place) rest)
    ∙ ap (λ x. (bit_and x rest * 256 ^ w + n / 256 ^ place % 256 ^ w) * 256 ^ hole) later
    ∙ ap (λ x. (x * 256 ^ w + n / 256 ^ place % 256 ^ w) * 256 ^ hole) (masked next fs n)

limits_fit : (fs : List Field) → IsTrue (fits fs (map limit fs))
limits_fit [] = refl
limits_fit (f ∷ fs) = grind (arith, nat_tests, limits_fit fs, pow_pos256, lt-ltb)

-- eight fields end within nine words
pub ends-within : (fs : List Field) → length fs ≤ 8 → fields_end 4 fs ≤ 72
ends-within fs few = omega (arith, fields_end-le 4 fs)

pub mask_number-below : (fs : List Field) → length fs ≤ 8 → mask_number 4 fs < 2 ^ (64 * 9)
mask_number-below fs few = grind (arith, nat_tests, pow-le-pow_right, ends-within, value_number-below, limits_fit)

-- ---- masked words

pub words_in-most : (fs : List Field) → length fs ≤ 8 → words_in fs ≤ 9
words_in-most [] few = omega arith
words_in-most (f ∷ fs) few = let within : fields_end 4 (f ∷ fs) ≤ 72 = ends-within (f ∷ fs) few in omega (arith, within)

pub size-in-words : (fs : List Field) → 0 < words_in fs → (layout header.One fs).size ≤ 8 * words_in fs
size-in-words [] some = absurd (omega arith)
size-in-words (f ∷ fs) some = omega arith

pub masks_for-is : (fs : List Field) → masks_for fs ≡ words_of_number 9 (mask_number 4 fs)
unfolding masks_for
masks_for-is fs = refl

few-words : (fs : List Field) (ws : List ℕ) → length fs ≤ 8 → length ws ≡ words_in fs → length ws ≤ length (masks_for fs)
few-words fs ws few count = omega (arith, words_in-most fs few, ap length (masks_for-is fs) ∙ length-words_of_number 9 (mask_number 4 fs))

number-masked : (fs : List Field) (ws : List ℕ) → length fs ≤ 8 → All (λ w. w < 2 ^ 64) ws → length ws ≡ words_in fs
    → number_of_words (masked_words ws (masks_for fs)) ≡ packed 4 fs (cuts 4 fs (number_of_words ws)) * 256 ^ 4
number-masked fs ws few small count =
    let n : ℕ = number_of_words ws in
    let m : ℕ = packed 4 fs (map limit fs) in
    let mask : number_of_words (masks_for fs) ≡ m * 256 ^ 4 =
    ap number_of_words (masks_for-is fs) ∙ number_of_words-words_of_number 9 (mask_number 4 fs) (mask_number-below fs few) ∙ value_number-packed 4 fs (map limit fs) in
    let above : AboveMask (256 ^ 4) = and-above 4 in
    let Small : List ℕ → Type 0 = λ ms. All (λ w. w < 2 ^ 64) ms in
    number_of_words-masked ws (masks_for fs) small (subst Small (sym (masks_for-is fs)) (All-words_of_number 9 (mask_number 4 fs))) (few-words fs ws few count)
    ∙ ap (bit_and n) mask ∙ above n m ∙ ap (λ x. x * 256 ^ 4) (masked 4 fs n)

-- a mask leaves the record as it is
pub masked-record : (epid stamp : ℕ) (fs : List Field) (ws : List ℕ) → length fs ≤ 8 → All (λ w. w < 2 ^ 64) ws → length ws ≡ words_in fs
    → packed_record epid stamp fs (masked_words ws (masks_for fs)) ≡ packed_record epid stamp fs ws
masked-record epid stamp fs ws few small count =
    record-of_number epid stamp fs (cuts 4 fs (number_of_words ws)) (masked_words ws (masks_for fs)) (cuts_fit 4 fs (number_of_words ws)) (number-masked fs ws few small count)

-- and clears all that is no field
pub masked-clean : (fs : List Field) (ws : List ℕ) → length fs ≤ 8 → All (λ w. w < 2 ^ 64) ws → length ws ≡ words_in fs → 0 < length ws
    → IsClean fs (masked_words ws (masks_for fs))
masked-clean fs ws few small count some =
    let many : length (masked_words ws (masks_for fs)) ≡ length ws = length-masked_words ws (masks_for fs) (few-words fs ws few count) in
    clean-of_number fs (cuts 4 fs (number_of_words ws)) (masked_words ws (masks_for fs)) (cuts_fit 4 fs (number_of_words ws))
    (omega (arith, many, count, size-in-words fs (omega (arith, count, some)))) (number-masked fs ws few small count)
