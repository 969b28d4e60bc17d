-- The shape of a record whose fields stand in one word.
use Rattle.std.proofs.Common.{◌≡◌, ◌≤◌, ℕ, Bool, true, false, cond, List, [], ◌∷◌, refl, arith}
use Rattle.std.specs.List.{list_any}
use Rattle.dspec_record.specs.Words.{width, rounded_up, after, fields_end, is_eight, layout, words_in, rounded_up-ge, fields_end-ge}
use Rattle.dspec_record.specs.declared.field.Field.{Field, TheVariants.One, TheVariants.Two, TheVariants.Four, TheVariants.Eight}
use Rattle.dspec_record.specs.declared.header.Header.TheVariants as header

-- a field of eight bytes needs a second word
eight-ends : (start : ℕ) (fs : List Field) → 4 ≤ start → list_any is_eight fs ≡ true → 16 ≤ fields_end start fs
eight-ends start [] low some = absurd (cc)
eight-ends start (One ∷ fs) low some = eight-ends (after start 1 1) fs (omega arith) some
eight-ends start (Two ∷ fs) low some = eight-ends (after start 2 2) fs (omega arith) some
eight-ends start (Four ∷ fs) low some = eight-ends (after start 4 4) fs (omega arith) some
eight-ends start (Eight ∷ fs) low some = omega (arith, fields_end-ge (after start 8 8) fs)

aligned : (fs : List Field) (b : Bool) → fields_end 4 fs ≤ 8 → list_any is_eight fs ≡ b → let align : ℕ = cond b 8 4 in align ≡ 4
aligned fs true short is = absurd (omega (arith, eight-ends 4 fs (omega arith) is))
aligned fs false short is = refl

some-width : (f : Field) → 1 ≤ width f
some-width One = omega arith
some-width Two = omega arith
some-width Four = omega arith
some-width Eight = omega arith

-- it has eight bytes without a stamp, and stands at multiples of four
pub one-word : (fs : List Field) → words_in fs ≡ 1 → layout header.One fs ≡ record { size = 8; align = 4 }
one-word [] one = absurd (omega (arith, one))
one-word (f ∷ fs) one =
    let end : ℕ = fields_end 4 (f ∷ fs) in
    let next : ℕ = after 4 (width f) (width f) in
    let long : 5 ≤ end = omega (arith, fields_end-ge next fs, rounded_up-ge f 4, some-width f) in
    let short : end ≤ 8 = omega (arith, one) in
    let size : rounded_up end 4 ≡ 8 = omega (arith, long, short) in
    let align = aligned (f ∷ fs) (list_any is_eight (f ∷ fs)) short refl in
    λ i. record { size = size i; align = align i }
