-- Values of fields at their places, as one number, and words whose number it is.
use Rattle.std.proofs.Common.{◌≡◌, ◌≤◌, ◌<◌, ◌+◌, ◌-◌, ◌*◌, ◌/◌, ◌^◌, ◌++◌, ℕ, zero, suc, IsTrue, List, [], ◌∷◌, length, take, refl, sym, ◌∙◌, ap, subst, arith}
use Rattle.std.proofs.Math.Nat.{mul_assoc, add-mul, mul-lt-mul_of_pos_right}
use Rattle.std.proofs.lemmas.{Bool.Decides.nat_tests, Nat.shr_below}
use Rattle.dspec_record.specs.{Words.width, Words.rounded_up, Words.after, Words.fields_end, Words.layout, Words.little_endian, Words.fields_text, Words.fits, Words.number_of_words}
use Rattle.dspec_record.specs.{Words.packed_record, Words.value_number, Words.IsClean, Words.rounded_up-ge, Words.fields_end-ge, declared.field.Field.Field, declared.field.Field.TheVariants.Four}
use Rattle.dspec_record.proofs.Cutting.{packed, cuts-packed, packed-text, packed-below}
use Rattle.dspec_record.proofs.LittleEndian.{pow_pos256, pow-add256, shifted-back, little_endian-parts, take-little_endian}
use Rattle.dspec_record.specs.declared.header.Header.TheVariants as header

-- values at their places, as one number
pub value_number-packed : (start : ℕ) (fs : List Field) (vs : List ℕ) → value_number start fs vs ≡ packed start fs vs * 256 ^ start
value_number-packed start [] vs = omega arith
value_number-packed start (f ∷ fs) [] = omega arith
value_number-packed start (f ∷ fs) (v ∷ vs) =
    let w : ℕ = width f in
    let place : ℕ = rounded_up start w in
    let next : ℕ = after start w w in
    let hole : ℕ = place - start in
    let rest : ℕ = packed next fs vs in
    let here : ℕ = rest * 256 ^ w + v in
    let back : 256 ^ hole * 256 ^ start ≡ 256 ^ place = pow-add256 hole start place (omega (arith, rounded_up-ge f start)) in
    let later : 256 ^ w * 256 ^ place ≡ 256 ^ next = pow-add256 w place next (omega arith) in
    let turned : v * 256 ^ place + rest * 256 ^ next ≡ rest * 256 ^ next + v * 256 ^ place = omega arith in
    ap (λ n. v * 256 ^ place + n) (value_number-packed next fs vs)
    ∙ turned
    ∙ ap (λ p. rest * p + v * 256 ^ place) (sym later)
    ∙ ap (λ n. n + v * 256 ^ place) (sym (mul_assoc rest (256 ^ w) (256 ^ place)))
    ∙ sym (add-mul (rest * 256 ^ w) v (256 ^ place))
    ∙ ap (λ p. here * p) (sym back)
    ∙ sym (mul_assoc here (256 ^ hole) (256 ^ start))

-- what fits the fields has no more bytes than they
pub value_number-below : (fs : List Field) (vs : List ℕ) → IsTrue (fits fs vs) → value_number 4 fs vs < 256 ^ fields_end 4 fs
value_number-below fs vs fit =
    let end : ℕ = fields_end 4 fs in
    let whole : 256 ^ (end - 4) * 256 ^ 4 ≡ 256 ^ end = pow-add256 (end - 4) 4 end (omega (arith, fields_end-ge 4 fs)) in
    let below : packed 4 fs vs * 256 ^ 4 < 256 ^ (end - 4) * 256 ^ 4 = mul-lt-mul_of_pos_right (packed-below 4 fs vs fit) (pow_pos256 4) in
    omega (arith, value_number-packed 4 fs vs, below, whole)

-- words whose number is that of values stand for these
pub record-of_number : (epid stamp : ℕ) (fs : List Field) (vs ws : List ℕ) → IsTrue (fits fs vs) → number_of_words ws ≡ packed 4 fs vs * 256 ^ 4
    → packed_record epid stamp fs ws ≡ record { epid = epid; stamp = stamp; values = vs }
record-of_number epid stamp fs vs ws fit is = grind (arith, nat_tests, cuts-packed, shifted-back, packed)

-- and hold nothing else
pub clean-of_number : (fs : List Field) (vs ws : List ℕ) → IsTrue (fits fs vs) → (layout header.One fs).size ≤ 8 * length ws → number_of_words ws ≡ packed 4 fs vs * 256 ^ 4
    → IsClean fs ws
clean-of_number fs vs ws fit room is =
    let n : ℕ = number_of_words ws in
    let size : ℕ = (layout header.One fs).size in
    let high : ℕ = packed 4 fs vs in
    let from_four : size ≡ 4 + (size - 4) = omega (arith, fields_end-ge 4 fs, rounded_up-ge Four (fields_end 4 fs)) in
    let parts : n ≡ high * 256 ^ 4 + 0 = omega (arith, is) in
    take-little_endian size (8 * length ws) n room
    ∙ ap (λ k. little_endian k n) from_four
    ∙ ap (little_endian (4 + (size - 4))) parts
    ∙ little_endian-parts 4 (size - 4) high 0 (pow_pos256 4)
    ∙ ap (λ t. little_endian 4 0 ++ t) (packed-text 4 fs vs fit)
    ∙ ap (λ r. little_endian 4 0 ++ fields_text 4 fs r.values) (sym (record-of_number 0 0 fs vs ws fit is))

-- words after the last that a number needs hold nothing
pub taken-number : (n : ℕ) (ws : List ℕ) → number_of_words ws < 2 ^ (64 * n) → number_of_words (take n ws) ≡ number_of_words ws
taken-number zero ws below = omega (arith, below)
taken-number (suc n) [] below = refl
taken-number (suc n) (w ∷ ws) below =
    let bits : 64 * suc n ≡ 64 * n + 64 = omega arith in
    let Below : ℕ → Type 0 = λ b. w + 2 ^ 64 * number_of_words ws < 2 ^ b in
    let less : (w + 2 ^ 64 * number_of_words ws) / 2 ^ 64 < 2 ^ (64 * n) = shr_below (w + 2 ^ 64 * number_of_words ws) (64 * n) 64 (subst Below bits below) in
    ap (λ m. w + 2 ^ 64 * m) (taken-number n ws (omega (arith, less)))
