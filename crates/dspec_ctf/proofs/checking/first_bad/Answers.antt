use Rattle.std.proofs.Common.{◌∙◌, length, map, sym}
use Rattle.std.specs.List.{range_with_len}
use Rattle.dspec_ctf.specs.Words.{bad_at, first_found}
use Rattle.dspec_ctf.proofs.Ranges.{first-after, none_of}
use Rattle.dspec_ctf.proofs.checking.first_bad.Goals as goal

pub loop-place-preserved : goal.loop-place-preserved
loop-place-preserved c =
    let f = bad_at c.args.stamped (map (λ name. name.now) c.args.names.now) in
    let n = length c.args.names.now in
    first-after f c.loop-place.place n (first_found f (range_with_len 0 n)) c.loop-place-test.true
    (sym c.bad_at-found.ensures.bad ∙ none_of c.bad_at-found.result (sym c.is_some.ensures ∙ c.if-is_some.false)) c.loop-place.invariant
