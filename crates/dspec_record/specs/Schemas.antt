-- Believed. A schema that is a header and a table of fields: which fields the records of an EPID have, if there are any. Its
-- shapes are their layouts, and its texts their record texts.
use Rattle.std.specs.Option.{option_map, option_map_or}
use Rattle.std.specs.Prelude.{ℕ, zero, suc, ◌^◌, Bool, false, ◌&&◌, nat_lt, nat_le, List, [], length, slice_get, Option, Some, None, unwrap_or, option_and_then, if◌then◌else◌}
use Rattle.dspec_record.specs.{Layout.layout, Record.Record, RecordText.record_text, RecordText.stamp_fits, RecordText.fits, declared.field.Field.Field, declared.field.Shape.Shape}
use Rattle.dspec_record.specs.{declared.header.Header.Header}

abbrev pub FieldTable : Type 0
FieldTable = ℕ → Option (List Field)

abbrev pub table_shape : Header → FieldTable → ℕ → Option Shape
table_shape h fields epid = option_map (layout h) (fields epid)

-- the EPID, a number below 2^32, is in the table, the stamp fits the header, and the values fit the fields one by one
abbrev pub table_accepts : Header → FieldTable → Record → Bool
table_accepts h fields r =
    nat_lt r.epid (2 ^ 32) && (stamp_fits h r.stamp && option_map_or (λ fs. fits fs r.values) (fields r.epid) false)

abbrev pub table_text : Header → FieldTable → Record → List ℕ
table_text h fields r = record_text h (unwrap_or (fields r.epid) []) r

-- an enabling has eight fields at most
abbrev pub within_limit : List Field → Option (List Field)
within_limit fs = if nat_le (length fs) 8 then Some fs else None

-- enablings have the EPIDs 1, 2, .. in their order
abbrev pub enabling_of : List (List Field) → ℕ → Option (List Field)
enabling_of enablings zero = None
enabling_of enablings (suc place) = slice_get enablings place

abbrev pub enabled : List (List Field) → FieldTable
enabled enablings epid = option_and_then within_limit (enabling_of enablings epid)

-- the default action, and the stamped one: every EPID but zero, with no fields
abbrev pub default_fields : FieldTable
default_fields zero = None
default_fields (suc _) = Some []
