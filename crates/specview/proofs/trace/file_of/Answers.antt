use Rattle.std.proofs.{Common.ap, Common.sym, Common.◌∙◌, lemmas.Option.get_or_from_slice_get}
use Rattle.specview.proofs.trace.file_of.Goals as goal

pub returns-in-Some-clause-fault : goal.returns-in-Some-clause-fault
returns-in-Some-clause-fault c =
    let first = c.in-Some.ensures.refused.1 in
    let at = get_or_from_slice_get c.args.records.now c.in-Some.place first.0 c.index-records-place.result first.1 in
    (c.in-Some.place, (first.0, (first.1, (ap (λ r. r.epid) (sym at ∙ sym c.index-records-place.is) ∙ sym c.epid.ensures, first.2))))
