-- Cited by calls. How a `Rec` holds a record: its values, and zeros after them.
use Rattle.std.specs.Prelude.{◌≡◌, ◌≤◌, ◌-◌, ◌++◌, length, take, drop, replicate}
use Rattle.dspec_record.specs.{Record.Record, declared.record.Rec.TheInside.Inside}

abbrev pub record_of : Inside → Record
record_of a = record { epid = a.epid; stamp = a.stamp; values = take a.len a.values }

-- there are eight places, and those that hold no value of the record hold zero
pub record IsPadded (a : Inside) : Type 0 where
  pub eight : length a.values ≡ 8
  pub few : a.len ≤ 8
  pub zeros : drop a.len a.values ≡ replicate (8 - a.len) 0

abbrev pub fields_of : Record → Inside
fields_of r = record {
  epid = r.epid;
  stamp = r.stamp;
  len = length r.values;
  values = r.values ++ replicate (8 - length r.values) 0;
}
