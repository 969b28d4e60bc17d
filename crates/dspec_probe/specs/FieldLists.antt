-- Cited by calls. How a `FieldList` holds fields: those after them hold one value.
use Rattle.std.specs.Prelude.{◌≡◌, ◌≤◌, ◌-◌, ◌++◌, List, length, take, drop, replicate}
use Rattle.dspec_probe.specs.{Words.Outside.Field, Words.Outside.One, declared.field_list.FieldList.TheInside.Inside}

abbrev pub listed_fields : Inside → List Field
listed_fields a = take a.len a.held

pub record IsFieldList (a : Inside) : Type 0 where
  pub eight : length a.held ≡ 8
  pub few : a.len ≤ 8
  pub rest : drop a.len a.held ≡ replicate (8 - a.len) One

abbrev pub list_places : List Field → Inside
list_places fs = record { held = fs ++ replicate (8 - length fs) One; len = length fs }
