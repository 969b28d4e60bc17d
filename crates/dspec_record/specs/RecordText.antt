-- Believed. The bytes of a record: its header, then each value at its place, little-endian, and zero elsewhere.
use Rattle.std.specs.Int.{bytes_low_first}
use Rattle.std.specs.Prelude.{◌≡◌, IsTrue, ℕ, ◌-◌, ◌/◌, ◌%◌, ◌==◌, ◌++◌, ◌^◌, Bool, true, false, ◌&&◌, nat_lt, List, [], ◌∷◌, replicate}
use Rattle.dspec_record.specs.{Layout.width, Layout.rounded_up, Layout.after, Layout.fields_start, Record.Record, declared.field.Field.Field, declared.header.Header.Header}
use Rattle.dspec_record.specs.declared.header.Header.TheVariants as header

-- a number in so many bytes, the lowest first
abbrev pub little_endian : ℕ → ℕ → List ℕ
little_endian n x = bytes_low_first 0 n x

-- the zeros from `o` up to the next multiple of `a`
abbrev pub gap : ℕ → ℕ → List ℕ
gap o a = replicate (rounded_up o a - o) 0

-- the bytes from `start` on: each value after the gap to its place, and the gap that rounds up the size
abbrev pub fields_text : ℕ → List Field → List ℕ → List ℕ
fields_text start (f ∷ fs) (v ∷ vs) =
    gap start (width f) ++ (little_endian (width f) v ++ fields_text (after start (width f) (width f)) fs vs)
fields_text start _ _ = gap start 4

-- the stamp where the header has one: two words of four bytes, the low word first
abbrev pub stamp_text : Header → ℕ → List ℕ
stamp_text header.One stamp = []
stamp_text header.Two stamp = little_endian 4 (stamp % 2 ^ 32) ++ little_endian 4 (stamp / 2 ^ 32)

-- what stands before the fields
abbrev pub header_text : Header → Record → List ℕ
header_text h r = little_endian 4 r.epid ++ stamp_text h r.stamp

-- the text of a record with these fields after this header
abbrev pub record_text : Header → List Field → Record → List ℕ
record_text h fs r = header_text h r ++ fields_text (fields_start h) fs r.values

-- a record without a stamp is one of stamp 0
abbrev pub stamp_fits : Header → ℕ → Bool
stamp_fits header.One stamp = stamp == 0
stamp_fits header.Two stamp = nat_lt stamp (2 ^ 64)

-- there is a value for each field, and it fits the field's width
abbrev pub fits : List Field → List ℕ → Bool
fits [] [] = true
fits (f ∷ fs) (v ∷ vs) = nat_lt v (256 ^ width f) && fits fs vs
fits _ _ = false

-- a record with this EPID, this header and these fields that has just this text
pub record IsRead (h : Header) (fs : List Field) (epid : ℕ) (text : List ℕ) (r : Record) : Type 0 where
  pub epid_is : r.epid ≡ epid
  pub stamp_fit : IsTrue (stamp_fits h r.stamp)
  pub fit : IsTrue (fits fs r.values)
  pub text_is : record_text h fs r ≡ text
