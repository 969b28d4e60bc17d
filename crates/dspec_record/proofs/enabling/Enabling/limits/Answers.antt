use Rattle.std.proofs.{Common.◌≤◌, Common.List, Common.length, Common.map, Common.take, Common.sym, Common.◌∙◌, Common.ap, Common.arith, lemmas.List.length-take-le}
use Rattle.dspec_record.specs.{Words.limit, declared.field.Field.Field}
use Rattle.dspec_record.proofs.Limits.{take-padded}
use Rattle.dspec_record.proofs.enabling.Enabling.limits.Goals as goal

pub returns : goal.returns
returns c =
    let n = c.self.inside.len in
    let fs : List Field = take n c.self.inside.fields in
    let few : n ≤ length c.self.inside.fields = omega arith in
    ap (take n) c.self.invariant.limits ∙ take-padded fs n (sym (length-take-le n c.self.inside.fields few)) ∙ ap (map limit) c.self.view_is
