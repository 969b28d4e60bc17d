-- Serves proofs. The fields of an `Enabling` and of `Enablings` follow from the lists that they hold.
use Rattle.std.proofs.{Common.◌≡◌, Common.◌≤◌, Common.◌-◌, Common.◌++◌, Common.List, Common.[], Common.length, Common.take, Common.replicate, Common.sym, Common.arith, lemmas.List.length-take-le}
use Rattle.dspec_record.specs.{EnablingFields.fields_of, EnablingFields.IsLaidOut, EnablingRows.rows_of, EnablingRows.IsFilled, Laws.Padding.padded_list, Layout.fields_start}
use Rattle.dspec_record.specs.{declared.field.Field.Field, declared.field.Field.TheVariants.One}
use Rattle.dspec_record.specs.EnablingFields as laid
use Rattle.dspec_record.specs.EnablingRows as filled
use Rattle.dspec_record.specs.declared.enabling.Enabling.TheInside as one
use Rattle.dspec_record.specs.declared.enabling.Enablings.TheInside as all

pub inside_of-fields_of : (a : one.Inside) → IsLaidOut a → laid.inside_of (fields_of a) ≡ a
inside_of-fields_of a p =
    let few : a.len ≤ length a.fields = omega arith in
    let len : length (take a.len a.fields) ≡ a.len = length-take-le a.len a.fields few in
    let fields : fields_of a ++ replicate (8 - length (fields_of a)) One ≡ a.fields =
    padded_list a.fields a.len 8 One p.eight p.few p.rest in
    λ i. record { fields = fields i; len = len i; shape = sym p.shape i; places = sym p.places i; limits = sym p.limits i; words = sym p.words i; masks = sym p.masks i }

pub inside_of-rows_of : (a : all.Inside) → IsFilled a → filled.inside_of (rows_of a) ≡ a
inside_of-rows_of a p =
    let few : a.count ≤ length a.rows = omega arith in
    let len : length (take a.count a.rows) ≡ a.count = length-take-le a.count a.rows few in
    let none : List Field = [] in
    let rows : take a.count a.rows ++ replicate (64 - length (take a.count a.rows)) none ≡ a.rows =
    padded_list a.rows a.count 64 none p.places p.few p.rest in
    let stamp : fields_start a.header - 4 ≡ a.stamp = omega (arith, p.stamp) in
    λ i. record { header = a.header; stamp = stamp i; rows = rows i; claims = sym p.claims i; count = len i }
