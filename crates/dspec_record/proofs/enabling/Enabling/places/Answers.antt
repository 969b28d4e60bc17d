use Rattle.std.proofs.{Common.◌≤◌, Common.List, Common.length, Common.take, Common.sym, Common.◌∙◌, Common.ap, Common.arith, lemmas.List.length-take-le}
use Rattle.dspec_record.specs.{Words.field_places, declared.field.Field.Field}
use Rattle.dspec_record.proofs.Places.{take-padded}
use Rattle.dspec_record.proofs.enabling.Enabling.places.Goals as goal

pub returns : goal.returns
returns c =
    let n = c.self.inside.len in
    let fs : List Field = take n c.self.inside.fields in
    let few : n ≤ length c.self.inside.fields = omega arith in
    ap (take n) c.self.invariant.places ∙ take-padded fs n (sym (length-take-le n c.self.inside.fields few)) ∙ ap (field_places 4) c.self.view_is
