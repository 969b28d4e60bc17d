use Rattle.std.proofs.Common.{◌∙◌, length, map, sym}
use Rattle.std.specs.List.{range_with_len}
use Rattle.dspec_ctf.specs.Words.{bad_label_at, first_found}
use Rattle.dspec_ctf.proofs.Ranges.{first-after, none_of}
use Rattle.dspec_ctf.proofs.checking.first_bad_label.Goals as goal

pub loop-number-preserved : goal.loop-number-preserved
loop-number-preserved c =
    let f = bad_label_at (map (λ label. label.now) c.args.labels.now) in
    let n = length c.args.labels.now in
    first-after f c.loop-number.number n (first_found f (range_with_len 0 n)) c.loop-number-test.true
    (sym c.bad_label_at-found.ensures ∙ none_of c.bad_label_at-found.result (sym c.is_some.ensures ∙ c.if-is_some.false)) c.loop-number.invariant
