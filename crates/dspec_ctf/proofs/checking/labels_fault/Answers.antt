use Rattle.std.proofs.Common.{◌∙◌, length, sym}
use Rattle.std.specs.List.{range_with_len}
use Rattle.dspec_ctf.specs.Words.{label_fault_at, first_found}
use Rattle.dspec_ctf.proofs.Ranges.{first-after, none_of}
use Rattle.dspec_ctf.proofs.checking.labels_fault.Goals as goal

pub loop-place-preserved : goal.loop-place-preserved
loop-place-preserved c =
    let f = label_fault_at c.args.epid c.args.event.now in
    let n = length c.args.event.now.fields.now in
    first-after f c.loop-place.place n (first_found f (range_with_len 0 n)) c.loop-place-test.true
    (sym c.label_fault_at-found.ensures ∙ none_of c.label_fault_at-found.result (sym c.is_some.ensures ∙ c.if-is_some.false)) c.loop-place.invariant
