-- The bytes of clean words where they are stored with an EPID, and after it a stamp, in place of the zeros before the fields.
use Rattle.std.proofs.Common.{◌≡◌, ◌≤◌, ◌<◌, ◌+◌, ◌-◌, ◌*◌, ◌/◌, ◌%◌, ◌^◌, ◌++◌, ℕ, All, List, [], ◌∷◌, length, take, get_or, refl, sym, ◌∙◌, ap, arith}
use Rattle.std.proofs.Math.Seq.{take-append-add, take-take}
use Rattle.std.proofs.lemmas.{Bool.Decides.nat_tests, List.length-append, List.append_assoc, List.append-nil, List.take_more, List.Elements.All-head, List.Elements.All-tail}
use Rattle.dspec_record.specs.{Words.fields_end, Words.layout, Words.little_endian, Words.fields_text, Words.record_text, Words.number_of_words, Words.cuts, Words.packed_record}
use Rattle.dspec_record.specs.{Words.bytes_of_words, Words.IsClean, Words.rounded_up-ge, Words.fields_end-ge, Words.size-stamped, declared.field.Field.Field, declared.field.Field.TheVariants.Four}
use Rattle.dspec_record.proofs.{Cutting.moved, LittleEndian.little_endian-append, LittleEndian.little_endian-parts}
use Rattle.dspec_record.specs.declared.header.Header.TheVariants as header

-- words stored one after the other are their number's bytes
pub bytes_of_words-little_endian : (ws : List ℕ) → All (λ w. w < 2 ^ 64) ws → bytes_of_words ws ≡ little_endian (8 * length ws) (number_of_words ws)
bytes_of_words-little_endian [] small = refl
bytes_of_words-little_endian (w ∷ ws) small =
    let P : ℕ → Type 0 = λ x. x < 2 ^ 64 in
    let n : ℕ = number_of_words ws in
    let count : 8 + 8 * length ws ≡ 8 * length (w ∷ ws) = omega arith in
    let turned : n * 256 ^ 8 + w ≡ w + 2 ^ 64 * n = omega arith in
    ap (λ t. little_endian 8 w ++ t) (bytes_of_words-little_endian ws (All-tail P w ws small))
    ∙ sym (little_endian-parts 8 (8 * length ws) n w (All-head P w ws small))
    ∙ ap (little_endian (8 + 8 * length ws)) turned
    ∙ ap (λ k. little_endian k (w + 2 ^ 64 * n)) count

-- the first four bytes and what stands after them, of clean words
record CleanParts (fs : List Field) (ws : List ℕ) (left : ℕ) : Type 0 where
  zeros : little_endian 4 (number_of_words ws) ≡ little_endian 4 0
  fields : take ((layout header.One fs).size - 4) (little_endian left (number_of_words ws / 256 ^ 4)) ≡ fields_text 4 fs (cuts 4 fs (number_of_words ws))

size-from_four : (fs : List Field) → (layout header.One fs).size ≡ 4 + ((layout header.One fs).size - 4)
size-from_four fs = omega (arith, fields_end-ge 4 fs, rounded_up-ge Four (fields_end 4 fs))

-- what is taken of four bytes and others after them
take-after_four : (size : ℕ) (x : ℕ) (t : List ℕ) → size ≡ 4 + (size - 4) → take size (little_endian 4 x ++ t) ≡ little_endian 4 x ++ take (size - 4) t
take-after_four size x t is =
    ap (λ k. take k (little_endian 4 x ++ t)) is ∙ take-append-add (little_endian 4 x) t (size - 4)

clean-parts : (fs : List Field) (ws : List ℕ) (left : ℕ) → 8 * length ws ≡ 4 + left → IsClean fs ws → CleanParts fs ws left
clean-parts fs ws left count clean = grind (arith, nat_tests, little_endian-append, take-after_four, size-from_four)

zero-low : (n : ℕ) → little_endian 4 n ≡ little_endian 4 0 → n % 2 ^ 32 ≡ 0
zero-low n is = grind (arith, nat_tests)

-- the first four bytes of clean words are zero
pub clean-first : (fs : List Field) (w : ℕ) (rest : List ℕ) → IsClean fs (w ∷ rest) → w % 2 ^ 32 ≡ 0
clean-first fs w rest clean =
    let n : ℕ = number_of_words rest in
    let low : (w + 2 ^ 64 * n) % 2 ^ 32 ≡ 0 = zero-low (w + 2 ^ 64 * n) (clean-parts fs (w ∷ rest) (4 + 8 * length rest) (omega arith) clean).zeros in
    omega (arith, low)

-- with a number of four bytes in their place
first-stored : (fs : List Field) (w first : ℕ) (rest : List ℕ) → w < 2 ^ 64 → first < 2 ^ 32 → IsClean fs (w ∷ rest)
    → take (layout header.One fs).size (little_endian 8 (w + first) ++ little_endian (8 * length rest) (number_of_words rest))
    ≡ little_endian 4 first ++ fields_text 4 fs (cuts 4 fs (number_of_words (w ∷ rest)))
first-stored fs w first rest small fits clean =
    let size : ℕ = (layout header.One fs).size in
    let n : ℕ = number_of_words rest in
    let all : ℕ = w + 2 ^ 64 * n in
    let left : ℕ = 4 + 8 * length rest in
    let parts : CleanParts fs (w ∷ rest) left = clean-parts fs (w ∷ rest) left (omega arith) clean in
    let none : w % 2 ^ 32 ≡ 0 = clean-first fs w rest clean in
    let below : w + first < 256 ^ 8 = omega (arith, none) in
    let count : 8 + 8 * length rest ≡ 4 + left = omega arith in
    let same : n * 256 ^ 8 + (w + first) ≡ all / 256 ^ 4 * 256 ^ 4 + first = omega (arith, none) in
    let bytes : little_endian 8 (w + first) ++ little_endian (8 * length rest) n ≡ little_endian 4 first ++ little_endian left (all / 256 ^ 4) =
    sym (little_endian-parts 8 (8 * length rest) n (w + first) below)
    ∙ ap (little_endian (8 + 8 * length rest)) same
    ∙ ap (λ k. little_endian k (all / 256 ^ 4 * 256 ^ 4 + first)) count
    ∙ little_endian-parts 4 left (all / 256 ^ 4) first fits in
    ap (take size) bytes
    ∙ take-after_four size first (little_endian left (all / 256 ^ 4)) (size-from_four fs)
    ∙ ap (λ t. little_endian 4 first ++ t) parts.fields

-- the first word is stored with the EPID
pub stored : (epid : ℕ) (fs : List Field) (w : ℕ) (rest : List ℕ) → w < 2 ^ 64 → epid < 2 ^ 32 → IsClean fs (w ∷ rest)
    → take (layout header.One fs).size (little_endian 8 (w + epid) ++ little_endian (8 * length rest) (number_of_words rest))
    ≡ record_text header.One fs (packed_record epid 0 fs (w ∷ rest))
stored epid fs w rest small fits clean = first-stored fs w epid rest small fits clean

-- with a stamp, a word of EPID and the stamp's low half is stored, and the first word with its high half
pub stored-stamped : (epid stamp : ℕ) (fs : List Field) (w : ℕ) (rest : List ℕ) → w < 2 ^ 64 → epid < 2 ^ 32 → stamp < 2 ^ 64 → IsClean fs (w ∷ rest)
    → take ((layout header.One fs).size + 8) (little_endian 8 (epid + 2 ^ 32 * (stamp % 2 ^ 32)) ++ (little_endian 8 (w + stamp / 2 ^ 32) ++ little_endian (8 * length rest) (number_of_words rest)))
    ≡ record_text header.Two fs (packed_record epid stamp fs (w ∷ rest))
stored-stamped epid stamp fs w rest small fits stamp_fits clean =
    let size : ℕ = (layout header.One fs).size in
    let low : ℕ = stamp % 2 ^ 32 in
    let high : ℕ = stamp / 2 ^ 32 in
    let values : List ℕ = cuts 4 fs (number_of_words (w ∷ rest)) in
    let first : ℕ = epid + 2 ^ 32 * low in
    let after : List ℕ = little_endian 8 (w + high) ++ little_endian (8 * length rest) (number_of_words rest) in
    let count : size + 8 ≡ 8 + size = omega arith in
    let turned : first ≡ low * 256 ^ 4 + epid = omega arith in
    let header_word : little_endian 8 first ≡ little_endian 4 epid ++ little_endian 4 low =
    ap (little_endian 8) turned ∙ little_endian-parts 4 4 low epid fits in
    ap (λ k. take k (little_endian 8 first ++ after)) count
    ∙ take-append-add (little_endian 8 first) after size
    ∙ ap (λ t. little_endian 8 first ++ t) (first-stored fs w high rest small (omega arith) clean)
    ∙ ap (λ t. t ++ (little_endian 4 high ++ fields_text 4 fs values)) header_word
    ∙ ap (λ t. (little_endian 4 epid ++ little_endian 4 low) ++ (little_endian 4 high ++ t)) (sym (moved fs values))

-- ---- word by word

pub length-bytes_of_words : (ws : List ℕ) → length (bytes_of_words ws) ≡ 8 * length ws
length-bytes_of_words [] = refl
length-bytes_of_words (w ∷ ws) = grind (arith, nat_tests, length-bytes_of_words ws, length-append)

pub bytes_of_words-more : (ws : List ℕ) (i : ℕ) → i < length ws → bytes_of_words (take (i + 1) ws) ≡ bytes_of_words (take i ws) ++ little_endian 8 (get_or ws i 0)
bytes_of_words-more ws i within = ap bytes_of_words (take_more ws i 0 within) ∙ appended (take i ws) (get_or ws i 0)
  where
    appended : (us : List ℕ) (u : ℕ) → bytes_of_words (us ++ u ∷ []) ≡ bytes_of_words us ++ little_endian 8 u
    appended [] u = append-nil (little_endian 8 u)
    appended (x ∷ us) u =
        ap (λ t. little_endian 8 x ++ t) (appended us u) ∙ sym (append_assoc (little_endian 8 x) (bytes_of_words us) (little_endian 8 u))

-- `stored` and `stored-stamped` of words that are stored one by one
pub stored-words : (epid : ℕ) (fs : List Field) (w : ℕ) (rest : List ℕ) → All (λ x. x < 2 ^ 64) (w ∷ rest) → epid < 2 ^ 32 → IsClean fs (w ∷ rest)
    → take (layout header.One fs).size (little_endian 8 (w + epid) ++ bytes_of_words rest) ≡ record_text header.One fs (packed_record epid 0 fs (w ∷ rest))
stored-words epid fs w rest small fits clean =
    let P : ℕ → Type 0 = λ x. x < 2 ^ 64 in
    ap (λ t. take (layout header.One fs).size (little_endian 8 (w + epid) ++ t)) (bytes_of_words-little_endian rest (All-tail P w rest small))
    ∙ stored epid fs w rest (All-head P w rest small) fits clean

pub stored-stamped-words : (epid stamp : ℕ) (fs : List Field) (w : ℕ) (rest : List ℕ) → All (λ x. x < 2 ^ 64) (w ∷ rest) → epid < 2 ^ 32 → stamp < 2 ^ 64 → IsClean fs (w ∷ rest)
    → take (layout header.Two fs).size (little_endian 8 (epid + 2 ^ 32 * (stamp % 2 ^ 32)) ++ (little_endian 8 (w + stamp / 2 ^ 32) ++ bytes_of_words rest))
    ≡ record_text header.Two fs (packed_record epid stamp fs (w ∷ rest))
stored-stamped-words epid stamp fs w rest small fits stamp_fits clean =
    let P : ℕ → Type 0 = λ x. x < 2 ^ 64 in
    let first : List ℕ = little_endian 8 (epid + 2 ^ 32 * (stamp % 2 ^ 32)) in
    let second : List ℕ = little_endian 8 (w + stamp / 2 ^ 32) in
    ap (λ k. take k (first ++ (second ++ bytes_of_words rest))) (size-stamped fs)
    ∙ ap (λ t. take ((layout header.One fs).size + 8) (first ++ (second ++ t))) (bytes_of_words-little_endian rest (All-tail P w rest small))
    ∙ stored-stamped epid stamp fs w rest (All-head P w rest small) fits stamp_fits clean

-- bytes that begin with all words begin with the text that these begin with
pub begins : (out bytes text : List ℕ) (n size : ℕ) → take n out ≡ bytes → size ≤ n → take size bytes ≡ text → take size out ≡ text
begins out bytes text n size is short has = sym (take-take size n out short) ∙ ap (take size) is ∙ has
