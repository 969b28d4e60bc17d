-- Serves proofs. The fields of a `Rec` follow from the record that it holds.
use Rattle.std.proofs.{Common.◌≡◌, Common.◌≤◌, Common.◌-◌, Common.◌++◌, Common.length, Common.take, Common.replicate, Common.arith, lemmas.List.length-take-le}
use Rattle.dspec_record.specs.{Laws.Padding.padded_list, RecordFields.record_of, RecordFields.IsPadded, RecordFields.fields_of, declared.record.Rec.TheInside.Inside}

pub fields_of-record_of : (a : Inside) → IsPadded a → fields_of (record_of a) ≡ a
fields_of-record_of a p =
    let few : a.len ≤ length a.values = omega arith in
    let len : length (take a.len a.values) ≡ a.len = length-take-le a.len a.values few in
    let values : take a.len a.values ++ replicate (8 - length (take a.len a.values)) 0 ≡ a.values =
    padded_list a.values a.len 8 0 p.eight p.few p.zeros in
    λ i. record { epid = a.epid; stamp = a.stamp; len = len i; values = values i }
