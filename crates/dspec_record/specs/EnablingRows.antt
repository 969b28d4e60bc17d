-- Believed. Enablings as contracts see them, and how `Enablings` holds them.
use Rattle.std.specs.Prelude.{◌≡◌, ◌≤◌, ◌+◌, ◌-◌, ◌++◌, List, [], length, take, drop, replicate}
use Rattle.dspec_record.specs.{Layout.fields_start, Packing.padded_claims, declared.enabling.Enablings.TheInside.Inside, declared.field.Field.Field, declared.header.Header.Header}

-- the header of all records, and the fields of each enabling, in their order
pub record EnabledRows : Type 0 where
  pub header : Header
  pub rows : List (List Field)

abbrev pub rows_of : Inside → EnabledRows
rows_of a = record { header = a.header; rows = take a.count a.rows }

-- there are 64 places, and those after the enablings have no fields; the stamp is what moves the fields from where they begin without
pub record IsFilled (a : Inside) : Type 0 where
  pub stamp : 4 + a.stamp ≡ fields_start a.header
  pub places : length a.rows ≡ 64
  pub few : a.count ≤ 64
  pub rest : drop a.count a.rows ≡ replicate (64 - a.count) []
  pub claims : a.claims ≡ padded_claims (take a.count a.rows)

abbrev pub inside_of : EnabledRows → Inside
inside_of e = record {
  header = e.header;
  stamp = fields_start e.header - 4;
  rows = e.rows ++ replicate (64 - length e.rows) [];
  claims = padded_claims e.rows;
  count = length e.rows;
}
