-- Believed. Where the fields of a record stand: every field at the first multiple of its width after the field
-- before it, counted from the record's start.
use Rattle.std.specs.List.{list_any}
use Rattle.std.specs.Prelude.{ℕ, ◌+◌, ◌-◌, ◌*◌, ◌/◌, ◌^◌, Bool, true, false, List, [], ◌∷◌, if◌then◌else◌}
use Rattle.dspec_record.specs.declared.field.{Field.Field, Field.TheVariants.One, Field.TheVariants.Two, Field.TheVariants.Four, Field.TheVariants.Eight, Shape.Shape}
use Rattle.dspec_record.specs.declared.header.Header.{Header}
use Rattle.dspec_record.specs.declared.header.Header.TheVariants as header

-- in bytes
abbrev pub width : Field → ℕ
width One = 1
width Two = 2
width Four = 4
width Eight = 8

-- the greatest value that the field holds
abbrev pub limit : Field → ℕ
limit f = 256 ^ width f - 1

-- the first multiple of `a` that isn't below `o`
abbrev pub rounded_up : ℕ → ℕ → ℕ
rounded_up o a = (o + (a - 1)) / a * a

-- `o` rounded up to a multiple of `a`, plus `n`
abbrev pub after : ℕ → ℕ → ℕ → ℕ
after o a n = rounded_up o a + n

-- where the fields begin: after the EPID, and the stamp where the header has one
abbrev pub fields_start : Header → ℕ
fields_start header.One = 4
fields_start header.Two = 12

-- where these fields end, laid one after the other from `start` on
abbrev pub fields_end : ℕ → List Field → ℕ
fields_end start [] = start
fields_end start (f ∷ fs) = fields_end (after start (width f) (width f)) fs

-- where each of these fields stands, laid one after the other from `start` on
abbrev pub field_places : ℕ → List Field → List ℕ
field_places start [] = []
field_places start (f ∷ fs) = rounded_up start (width f) ∷ field_places (after start (width f) (width f)) fs

abbrev pub is_eight : Field → Bool
is_eight Eight = true
is_eight _ = false

-- the size and the alignment of a record with these fields after this header
abbrev pub layout : Header → List Field → Shape
layout h fs = record {
  size = rounded_up (fields_end (fields_start h) fs) 4;
  align = if list_any is_eight fs then 8 else 4;
}
