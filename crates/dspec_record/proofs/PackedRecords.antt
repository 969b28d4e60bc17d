-- A packed record while it is made and while it is written: the masked words, the words in their places, and the text that they begin with.
use Rattle.std.proofs.Common.{◌≡◌, ◌≤◌, ◌<◌, ◌+◌, ◌*◌, ◌/◌, ◌%◌, ◌^◌, ◌++◌, ℕ, suc, zero, All, List, [], ◌∷◌, length, take, get_or, set, refl, sym, ◌∙◌, ap, subst, arith}
use Rattle.std.proofs.Math.Seq.{take-length}
use Rattle.std.proofs.lemmas.Bool.{cases_lt, Decides.nat_tests}
use Rattle.std.proofs.lemmas.List.{length-take-le, get_or-take, get_or-set_same, get_or-set_other, take_at, take-take, append_assoc}
use Rattle.std.specs.Int.RustNames.{bit_and}
use Rattle.dspec_record.specs.Words.{with_low, rounded_up, fields_start, layout, Record, little_endian, record_text, number_of_words, packed_record, words_in, bytes_of_words, masked_words, IsClean}
use Rattle.dspec_record.specs.Words.{BeginsWithWords, size-stamped, length-record_text}
use Rattle.dspec_record.specs.declared.{field.Field.Field, header.Header.Header}
use Rattle.dspec_record.specs.declared.header.Header.TheVariants as header
use Rattle.dspec_record.proofs.{Cutting.cuts_fit, Masking.masked_words-is, Storing.bytes_of_words-more, Storing.stored-words, Storing.stored-stamped-words, Storing.clean-first, Storing.begins}

-- one word more is masked
pub masked-more : (ws ms kept : List ℕ) (i : ℕ) → i < length kept → ((k : ℕ) → k < i → get_or kept k 0 ≡ bit_and (get_or ws k 0) (get_or ms k 0))
    → (k : ℕ) → k < i + 1 → get_or (set kept i (bit_and (get_or ws i 0) (get_or ms i 0))) k 0 ≡ bit_and (get_or ws k 0) (get_or ms k 0)
masked-more ws ms kept i room each k within = grind (arith, nat_tests, cases_lt, get_or-set_other, get_or-set_same)

-- words of which each is masked
pub kept-masked : (ws ms kept : List ℕ) (n : ℕ) → n ≡ length ws → n ≤ length ms → n ≤ length kept → ((k : ℕ) → k < n → get_or kept k 0 ≡ bit_and (get_or ws k 0) (get_or ms k 0))
    → take n kept ≡ masked_words ws ms
kept-masked ws ms kept n is masks room each =
    masked_words-is ws ms (take n kept) (omega (arith, is)) (length-take-le n kept room ∙ is)
    (λ i within. get_or-take n kept i 0 (omega (arith, is)) ∙ each i (omega (arith, is)))

-- one word more, after the first
pub words-put : (at low i place end : ℕ) (ws initial out new : List ℕ) → 1 ≤ i → i < length ws → place ≡ at + 8 * i → end ≡ at + 8 * (i + 1)
    → take (place + 8) new ≡ take place out ++ little_endian 8 (get_or ws i 0)
    → take (at + 8 * i) out ≡ take at initial ++ bytes_of_words (take i (with_low low ws))
    → take end new ≡ take at initial ++ bytes_of_words (take (i + 1) (with_low low ws))
words-put at low i place end [] initial out new past within at_word at_end put so_far = absurd (omega arith)
words-put at low zero place end (w ∷ rest) initial out new past within at_word at_end put so_far = absurd (omega arith)
words-put at low (suc i) place end (w ∷ rest) initial out new past within at_word at_end put so_far =
    words-more at (suc i) place end ((w + low) ∷ rest) initial out new within at_word at_end put so_far
  where
    words-more : (at i place end : ℕ) (ws initial out new : List ℕ) → i < length ws → place ≡ at + 8 * i → end ≡ at + 8 * (i + 1)
        → take (place + 8) new ≡ take place out ++ little_endian 8 (get_or ws i 0)
        → take (at + 8 * i) out ≡ take at initial ++ bytes_of_words (take i ws)
        → take end new ≡ take at initial ++ bytes_of_words (take (i + 1) ws)
    words-more at i place end ws initial out new within at_word at_end put so_far = grind (arith, nat_tests, append_assoc, bytes_of_words-more)

-- all of them, after what was written before
pub all-put : (at low i : ℕ) (ws out first new : List ℕ) → i ≡ length ws → at ≤ length out
    → take (at + 8) first ≡ take at out ++ little_endian 8 (get_or ws 0 0 + low)
    → take (at + 8 * i) new ≡ take at first ++ bytes_of_words (take i (with_low low ws))
    → take (at + 8 * length ws) new ≡ take at out ++ bytes_of_words (with_low low ws)
all-put at low i ws out first new all room begun put =
    ap (λ k. take (at + 8 * k) new) (sym all) ∙ put ∙ ap (λ t. t ++ bytes_of_words (take i (with_low low ws))) kept
    ∙ ap (λ k. take at out ++ bytes_of_words (take k (with_low low ws))) all ∙ ap (λ us. take at out ++ bytes_of_words us) (whole low ws)
  where
    kept : take at first ≡ take at out
    kept = sym (take-take at (at + 8) first (omega arith)) ∙ ap (take at) begun ∙ take_at (take at out) (little_endian 8 (get_or ws 0 0 + low)) at (length-take-le at out room)

    whole : (low : ℕ) (ws : List ℕ) → take (length ws) (with_low low ws) ≡ with_low low ws
    whole low [] = refl
    whole low (w ∷ ws) = ap (λ us. (w + low) ∷ us) (take-length ws)

-- the lower half of the first of clean words is zero
pub first-zeros : (fs : List Field) (ws : List ℕ) → 0 < length ws → IsClean fs ws → get_or ws 0 0 % 2 ^ 32 ≡ 0
first-zeros fs [] some clean = absurd (omega arith)
first-zeros fs (w ∷ ws) some clean = clean-first fs w ws clean

pub few-taken : {X : Type 0} (n : ℕ) (xs : List X) → n ≤ 8 → length (take n xs) ≤ 8
few-taken n xs few = omega (arith, length-take-most n xs)
  where
    length-take-most : {X : Type 0} (n : ℕ) (xs : List X) → length (take n xs) ≤ n
    length-take-most zero xs = omega arith
    length-take-most (suc n) [] = omega arith
    length-take-most (suc n) (x ∷ xs) = omega (arith, length-take-most n xs)

pub size-of_text : (h : Header) (epid stamp : ℕ) (fs : List Field) (ws : List ℕ) → length (record_text h fs (packed_record epid stamp fs ws)) ≡ (layout h fs).size
size-of_text h epid stamp fs ws = length-record_text h fs (packed_record epid stamp fs ws) (cuts_fit 4 fs (number_of_words ws))

-- what is written where there is no stamp
text-of_words : (epid stamp : ℕ) (fs : List Field) (ws out : List ℕ) → 0 < length ws → All (λ w. w < 2 ^ 64) ws → epid < 2 ^ 32 → IsClean fs ws
    → (layout header.One fs).size ≤ 8 * length ws → take (8 * length ws) out ≡ bytes_of_words (with_low epid ws)
    → take (layout header.One fs).size out ≡ record_text header.One fs (packed_record epid stamp fs ws)
text-of_words epid stamp fs [] out some small fits clean room put = absurd (omega arith)
text-of_words epid stamp fs (w ∷ rest) out some small fits clean room put =
    begins out (little_endian 8 (w + epid) ++ bytes_of_words rest) (record_text header.One fs (packed_record epid stamp fs (w ∷ rest))) (8 * length (w ∷ rest))
    (layout header.One fs).size put room (stored-words epid fs w rest small fits clean)

-- and where there is one
text-of_stamped : (epid stamp : ℕ) (fs : List Field) (ws out : List ℕ) → 0 < length ws → All (λ w. w < 2 ^ 64) ws → epid < 2 ^ 32 → stamp < 2 ^ 64 → IsClean fs ws
    → (layout header.One fs).size ≤ 8 * length ws
    → take (8 + 8 * length ws) out ≡ little_endian 8 (epid + 2 ^ 32 * (stamp % 2 ^ 32)) ++ bytes_of_words (with_low (stamp / 2 ^ 32) ws)
    → take (layout header.Two fs).size out ≡ record_text header.Two fs (packed_record epid stamp fs ws)
text-of_stamped epid stamp fs [] out some small fits stamp_fits clean room put = absurd (omega arith)
text-of_stamped epid stamp fs (w ∷ rest) out some small fits stamp_fits clean room put =
    let after : List ℕ = little_endian 8 (w + stamp / 2 ^ 32) ++ bytes_of_words rest in
    begins out (little_endian 8 (epid + 2 ^ 32 * (stamp % 2 ^ 32)) ++ after) (record_text header.Two fs (packed_record epid stamp fs (w ∷ rest))) (8 + 8 * length (w ∷ rest))
    (layout header.Two fs).size put (omega (arith, room, size-stamped fs)) (stored-stamped-words epid stamp fs w rest small fits stamp_fits clean)

-- the same under a header that is one of the two
pub text-put_one : (h : Header) (epid stamp low : ℕ) (fs : List Field) (ws out : List ℕ) → h ≡ header.One → low ≡ epid → low < 2 ^ 32 → 0 < length ws → All (λ w. w < 2 ^ 64) ws → IsClean fs ws
    → (layout header.One fs).size ≤ 8 * length ws → take (0 + 8 * length ws) out ≡ bytes_of_words (with_low low ws)
    → take (layout h fs).size out ≡ record_text h fs (packed_record epid stamp fs ws)
text-put_one h epid stamp low fs ws out one is half some small clean room put =
    let Done : Header → Type 0 = λ k. take (layout k fs).size out ≡ record_text k fs (packed_record epid stamp fs ws) in
    let all : 8 * length ws ≡ 0 + 8 * length ws = omega arith in
    subst Done (sym one) (
    text-of_words epid stamp fs ws out some small (omega (arith, is, half)) clean room (
    ap (λ k. take k out) all ∙ put ∙ ap (λ l. bytes_of_words (with_low l ws)) is))

pub text-put_two : (h : Header) (epid stamp word id : ℕ) (fs : List Field) (ws begun out : List ℕ) → h ≡ header.Two → word ≡ id + stamp % 2 ^ 32 * 2 ^ 32 → id ≡ epid → epid < 2 ^ 32 → stamp < 2 ^ 64
    → 0 < length ws → All (λ w. w < 2 ^ 64) ws → IsClean fs ws → (layout header.One fs).size ≤ 8 * length ws
    → take 8 begun ≡ little_endian 8 word → take (8 + 8 * length ws) out ≡ take 8 begun ++ bytes_of_words (with_low (stamp / 2 ^ 32) ws)
    → take (layout h fs).size out ≡ record_text h fs (packed_record epid stamp fs ws)
text-put_two h epid stamp word id fs ws begun out two is epid_is fits stamp_fits some small clean room first put =
    let Done : Header → Type 0 = λ k. take (layout k fs).size out ≡ record_text k fs (packed_record epid stamp fs ws) in
    let turned : word ≡ epid + 2 ^ 32 * (stamp % 2 ^ 32) = omega (arith, is, epid_is) in
    subst Done (sym two) (
    text-of_stamped epid stamp fs ws out some small fits stamp_fits clean room (
    put
    ∙ ap (λ t. t ++ bytes_of_words (with_low (stamp / 2 ^ 32) ws)) first
    ∙ ap (λ x. little_endian 8 x ++ bytes_of_words (with_low (stamp / 2 ^ 32) ws)) turned))

-- bytes that begin with the text of all fields whose words are clean begin with that of the record which the words stand for
pub text-put : (h k : Header) (epid stamp : ℕ) (fs : List Field) (ws out : List ℕ) (r : Record) → k ≡ h → packed_record epid stamp fs ws ≡ r → IsClean fs ws
    → (layout header.One fs).size ≤ 8 * length ws → BeginsWithWords k epid stamp ws out → take (length (record_text h fs r)) out ≡ record_text h fs r
text-put h k epid stamp fs ws out r is same clean room put = grind (arith, nat_tests, size-of_text h epid stamp fs ws)

-- whole words have room for the text, and no more room than it rounds up to
pub rounds-up : (fs : List Field) (n : ℕ) → 0 < n → n ≡ words_in fs → rounded_up (layout header.One fs).size 8 ≡ 8 * n
rounds-up [] n some is = absurd (omega arith)
rounds-up (f ∷ fs) n some is = omega (arith, is)

-- there is room for so many words, and for the stamp's before them
pub room-of : (h : Header) (fs : List Field) (n room : ℕ) → rounded_up (layout header.One fs).size 8 ≡ 8 * n → rounded_up (layout h fs).size 8 ≤ room → fields_start h + 8 * n ≤ room + 4
room-of header.One fs n room whole enough = omega (arith, whole, enough)
room-of header.Two fs n room whole enough = omega (arith, whole, enough, size-stamped fs)
