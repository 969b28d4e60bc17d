-- Serves proofs. The places of a `FieldList` follow from the list that it holds.
use Rattle.std.proofs.{Common.◌≡◌, Common.◌≤◌, Common.◌-◌, Common.◌++◌, Common.length, Common.take, Common.replicate, Common.arith, lemmas.List.length-take-le}
use Rattle.dspec_probe.specs.{FieldLists.listed_fields, FieldLists.IsFieldList, FieldLists.list_places, Words.Outside.padded_list, Words.Outside.One, declared.field_list.FieldList.TheInside.Inside}

pub list_places-listed_fields : (a : Inside) → IsFieldList a → list_places (listed_fields a) ≡ a
list_places-listed_fields a p =
    let few : a.len ≤ length a.held = omega arith in
    let len : length (take a.len a.held) ≡ a.len = length-take-le a.len a.held few in
    let held : listed_fields a ++ replicate (8 - length (listed_fields a)) One ≡ a.held = padded_list a.held a.len 8 One p.eight p.few p.rest in
    λ i. record { held = held i; len = len i }
