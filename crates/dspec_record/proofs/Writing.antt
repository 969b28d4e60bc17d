-- A record's text while it is written.
use Rattle.std.proofs.Common.{◌≡◌, ◌≤◌, ◌-◌, ◌++◌, ◌+◌, ℕ, IsTrue, List, [], ◌∷◌, length, take, drop, replicate, refl, sym, ◌∙◌, ap, arith}
use Rattle.std.proofs.lemmas.{Bool.Decides.nat_tests, List.append_assoc}
use Rattle.dspec_record.specs.Words.{Record, width, rounded_up, after, fields_start, fields_end, layout, little_endian, gap, header_text, fields_text, record_text, fits, IsClearAfter, rounded_up-ge}
use Rattle.dspec_record.specs.Words.{fields_end-ge, layout-IsShape}
use Rattle.dspec_record.specs.declared.{field.Field.Field, field.Field.TheVariants.Four, header.Header.Header}
use Rattle.dspec_record.proofs.Clearing.{clear-part, take-add}

-- `out` holds the text up to `end`, with zeros after it, and these fields and values are still to be written
pub record IsWriting (text : List ℕ) (size end : ℕ) (out : List ℕ) (fs : List Field) (vs : List ℕ) : Type 0 where
  pub laid : take end out ++ fields_text end fs vs ≡ text
  pub exact : rounded_up (fields_end end fs) 4 ≡ size
  pub short : size ≤ 128
  pub room : size + 8 ≤ length out
  pub fit : IsTrue (fits fs vs)
  pub clear : IsClearAfter end out

pub IsWriting-start : (h : Header) (fs : List Field) (r : Record) (out : List ℕ) → length fs ≤ 8 → IsTrue (fits fs r.values) → take (fields_start h) out ≡ header_text h r
    → (layout h fs).size + 8 ≤ length out → IsClearAfter (fields_start h) out → IsWriting (record_text h fs r) (layout h fs).size (fields_start h) out fs r.values
IsWriting-start h fs r out few fit header room clear =
    let shape = layout-IsShape h fs few in
    record {
      laid = ap (λ xs. xs ++ fields_text (fields_start h) fs r.values) header;
      exact = refl;
      short = omega (arith, shape.bounded);
      room = room;
      fit = fit;
      clear = clear;
    }

-- a field's place has room for eight bytes
pub IsWriting-room : (text : List ℕ) (size end place : ℕ) (out : List ℕ) (f : Field) (fs : List Field) (vs : List ℕ) → IsWriting text size end out (f ∷ fs) vs
    → place ≡ rounded_up end (width f) → place + 8 ≤ length out
IsWriting-room text size end place out f fs vs w at =
    let next : ℕ = after end (width f) (width f) in
    omega (arith, w.exact, w.room, at, fields_end-ge next fs, rounded_up-ge Four (fields_end next fs))

pub IsWriting-near : (text : List ℕ) (size end : ℕ) (out : List ℕ) (fs : List Field) (vs : List ℕ) → IsWriting text size end out fs vs → end ≤ size
IsWriting-near text size end out fs vs w =
    omega (arith, w.exact, fields_end-ge end fs, rounded_up-ge Four (fields_end end fs))

regroup : (a b c d : List ℕ) → (a ++ (b ++ c)) ++ d ≡ a ++ (b ++ (c ++ d))
regroup a b c d = simp append_assoc

-- a value is written after the gap before it
pub IsWriting-next : (text : List ℕ) (size end : ℕ) (out out' : List ℕ) (f : Field) (fs : List Field) (v : ℕ) (vs : List ℕ) → IsWriting text size end out (f ∷ fs) (v ∷ vs)
    → length out' ≡ length out → take (after end (width f) (width f)) out' ≡ take end out ++ (gap end (width f) ++ little_endian (width f) v)
    → IsClearAfter (after end (width f) (width f)) out' → IsWriting text size (after end (width f) (width f)) out' fs vs
IsWriting-next text size end out out' f fs v vs w same put clear = grind (arith, nat_tests, regroup)

-- with the zeros after the last field the text is whole
pub IsWriting-end : (text : List ℕ) (size end : ℕ) (out : List ℕ) (vs : List ℕ) → IsWriting text size end out [] vs → take size out ≡ text
IsWriting-end text size end out vs w =
    let n : ℕ = size - end in
    let near : end ≤ size = IsWriting-near text size end out [] vs w in
    let rest : take n (drop end out) ≡ gap end 4 =
    clear-part end n out (omega (arith, w.room)) (omega (arith, w.exact)) w.clear ∙ ap (λ m. replicate (m - end) 0) (sym w.exact) in
    let all : size ≡ end + n = omega arith in
    ap (λ m. take m out) all ∙ sym (take-add end n out) ∙ ap (λ xs. take end out ++ xs) rest ∙ w.laid
