-- Cited by calls. How an `Enabling` holds a list of fields.
use Rattle.std.specs.Prelude.{◌≡◌, ◌≤◌, ◌-◌, ◌++◌, ℕ, List, length, map, take, drop, replicate}
use Rattle.dspec_record.specs.{Layout.limit, Layout.field_places, Layout.layout, Packing.words_in, Packing.masks_for, declared.enabling.Enabling.TheInside.Inside, declared.field.Field.Field}
use Rattle.dspec_record.specs.{declared.field.Field.TheVariants.One}
use Rattle.dspec_record.specs.declared.header.Header.TheVariants as header

abbrev pub fields_of : Inside → List Field
fields_of a = take a.len a.fields

-- where the fields stand without a stamp, in eight places, of which those of no field hold zero
abbrev pub padded_places : List Field → List ℕ
padded_places fs = field_places 4 fs ++ replicate (8 - length fs) 0

-- the greatest value of each field, in eight places, of which those of no field hold zero
abbrev pub padded_limits : List Field → List ℕ
padded_limits fs = map limit fs ++ replicate (8 - length fs) 0

-- there are eight fields, and those after the list hold one value; shape and places are the list's layout without a stamp, and
-- the limits, the number of words and their masks are those of the fields
pub record IsLaidOut (a : Inside) : Type 0 where
  pub eight : length a.fields ≡ 8
  pub few : a.len ≤ 8
  pub rest : drop a.len a.fields ≡ replicate (8 - a.len) One
  pub shape : a.shape ≡ layout header.One (take a.len a.fields)
  pub places : a.places ≡ padded_places (take a.len a.fields)
  pub limits : a.limits ≡ padded_limits (take a.len a.fields)
  pub words : a.words ≡ words_in (take a.len a.fields)
  pub masks : a.masks ≡ masks_for (take a.len a.fields)

abbrev pub inside_of : List Field → Inside
inside_of fs = record {
  fields = fs ++ replicate (8 - length fs) One;
  len = length fs;
  shape = layout header.One fs;
  places = padded_places fs;
  limits = padded_limits fs;
  words = words_in fs;
  masks = masks_for fs;
}
