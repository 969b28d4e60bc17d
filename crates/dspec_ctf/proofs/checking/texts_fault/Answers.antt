use Rattle.std.proofs.Common.{◌∙◌, length, sym}
use Rattle.std.specs.List.{range_with_len}
use Rattle.dspec_ctf.specs.Words.{text_fault_at, first_found}
use Rattle.dspec_ctf.proofs.Ranges.{first-after, none_of}
use Rattle.dspec_ctf.proofs.checking.texts_fault.Goals as goal

pub loop-place-preserved : goal.loop-place-preserved
loop-place-preserved c =
    let f = text_fault_at c.args.epid c.args.kinds.now c.args.fields.now in
    let n = length c.args.kinds.now in
    first-after f c.loop-place.place n (first_found f (range_with_len 0 n)) c.loop-place-test.true
    (sym c.text_fault_at-found.ensures ∙ none_of c.text_fault_at-found.result (sym c.is_some.ensures ∙ c.if-is_some.false)) c.loop-place.invariant
