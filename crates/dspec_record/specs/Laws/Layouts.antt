-- Serves proofs. Bounds on a layout: fields never end before they begin, nor more than eight bytes a field after it.
use Rattle.std.proofs.Common.{◌≡◌, ◌≤◌, ◌+◌, ◌*◌, ◌⊎◌, ℕ, Bool, true, false, cond, List, [], ◌∷◌, length, refl, inl, inr, ap, ◌∙◌, arith}
use Rattle.std.specs.List.{list_any}
use Rattle.dspec_record.specs.{Layout.width, Layout.rounded_up, Layout.after, Layout.fields_start, Layout.fields_end, Layout.is_eight, Layout.layout, Reading.IsShape, declared.field.Field.Field}
use Rattle.dspec_record.specs.{declared.field.Field.TheVariants.One, declared.field.Field.TheVariants.Two, declared.field.Field.TheVariants.Four, declared.field.Field.TheVariants.Eight}
use Rattle.dspec_record.specs.{declared.header.Header.Header}
use Rattle.dspec_record.specs.declared.header.Header.TheVariants as header

pub rounded_up-ge : (f : Field) (o : ℕ) → o ≤ rounded_up o (width f)
rounded_up-ge One o = omega arith
rounded_up-ge Two o = omega arith
rounded_up-ge Four o = omega arith
rounded_up-ge Eight o = omega arith

after-le : (f : Field) (o : ℕ) → rounded_up (after o (width f) (width f)) 8 ≤ rounded_up o 8 + 8
after-le One o = omega arith
after-le Two o = omega arith
after-le Four o = omega arith
after-le Eight o = omega arith

pub fields_end-ge : (start : ℕ) (fs : List Field) → start ≤ fields_end start fs
fields_end-ge start [] = omega arith
fields_end-ge start (f ∷ fs) =
    omega (arith, fields_end-ge (after start (width f) (width f)) fs, rounded_up-ge f start)

pub fields_end-le : (start : ℕ) (fs : List Field) → rounded_up (fields_end start fs) 8 ≤ rounded_up start 8 + 8 * length fs
fields_end-le start [] = omega arith
fields_end-le start (f ∷ fs) =
    omega (arith, fields_end-le (after start (width f) (width f)) fs, after-le f start)

align-is : (b : Bool) → let align : ℕ = cond b 8 4 in (align ≡ 4) ⊎ (align ≡ 8)
align-is true = inr refl
align-is false = inl refl

pub fields_start-ge : (h : Header) → 4 ≤ fields_start h
fields_start-ge header.One = omega arith
fields_start-ge header.Two = omega arith

fields_start-le : (h : Header) → fields_start h ≤ 12
fields_start-le header.One = omega arith
fields_start-le header.Two = omega arith

pub layout-IsShape : (h : Header) (fs : List Field) → length fs ≤ 8 → IsShape (layout h fs)
layout-IsShape h fs few =
    let start : ℕ = fields_start h in
    let least : 4 ≤ start = fields_start-ge h in
    let most : start ≤ 12 = fields_start-le h in
    let low : start ≤ fields_end start fs = fields_end-ge start fs in
    let high : rounded_up (fields_end start fs) 8 ≤ rounded_up start 8 + 8 * length fs = fields_end-le start fs in
    record {
      whole_words = omega arith;
      with_epid = omega arith;
      bounded = omega arith;
      aligned = align-is (list_any is_eight fs);
    }

-- a header stands within each record that has it
pub header-within : (h : Header) (fs : List Field) → fields_start h ≤ (layout h fs).size
header-within h fs =
    omega (arith, fields_end-ge (fields_start h) fs, rounded_up-ge Four (fields_end (fields_start h) fs))

after-stamped : (f : Field) (o : ℕ) → after (8 + o) (width f) (width f) ≡ 8 + after o (width f) (width f)
after-stamped One o = omega arith
after-stamped Two o = omega arith
after-stamped Four o = omega arith
after-stamped Eight o = omega arith

-- eight bytes before the fields move their end by eight bytes, since each width divides eight
fields_end-stamped : (start : ℕ) (fs : List Field) → fields_end (8 + start) fs ≡ 8 + fields_end start fs
fields_end-stamped start [] = refl
fields_end-stamped start (f ∷ fs) =
    ap (λ o. fields_end o fs) (after-stamped f start) ∙ fields_end-stamped (after start (width f) (width f)) fs

-- a stamp makes a record longer by its own eight bytes
pub size-stamped : (fs : List Field) → (layout header.Two fs).size ≡ (layout header.One fs).size + 8
size-stamped fs =
    let moved : fields_end 12 fs ≡ 8 + fields_end 4 fs = fields_end-stamped 4 fs in
    omega (arith, moved)

pub size-moved : (h : Header) (moved : ℕ) (fs : List Field) → 4 + moved ≡ fields_start h → (layout h fs).size ≡ (layout header.One fs).size + moved
size-moved header.One moved fs is = omega arith
size-moved header.Two moved fs is = omega (arith, size-stamped fs)
