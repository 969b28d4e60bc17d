use Rattle.std.proofs.Common.{◌∙◌, length, sym}
use Rattle.std.specs.List.{range_with_len}
use Rattle.dspec_ctf.specs.Words.{fault_at, first_found}
use Rattle.dspec_ctf.proofs.Ranges.{first-after, none_of}
use Rattle.dspec_ctf.proofs.checking.all_fields_fault.Goals as goal

pub loop-place-preserved : goal.loop-place-preserved
loop-place-preserved c =
    let f = fault_at c.args.stamped c.args.enablings.now c.args.given.now in
    let n = length c.args.enablings.now.rows in
    first-after f c.loop-place.place n (first_found f (range_with_len 0 n))
    (rw c.count-place-end.ensures.count at c.loop-place-test.true)
    (sym c.fault_at-found.ensures ∙ none_of c.fault_at-found.result (sym c.is_some.ensures ∙ c.if-is_some.false)) c.loop-place.invariant
