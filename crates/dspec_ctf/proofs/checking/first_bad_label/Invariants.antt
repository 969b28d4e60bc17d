use Rattle.std.proofs.Common.{◌≡◌, ◌-◌, length, map}
use Rattle.std.specs.List.{range_with_len}
use Rattle.dspec_ctf.specs.Words.{bad_label_at, first_found}
use Rattle.dspec_ctf.proofs.checking.first_bad_label.Given as goal

abbrev pub invariant-loop-number : goal.invariant-loop-number
invariant-loop-number l =
    first_found (bad_label_at (map (λ label. label.now) l.labels)) (range_with_len l.number (length l.labels - l.number))
    ≡ first_found (bad_label_at (map (λ label. label.now) l.labels)) (range_with_len 0 (length l.labels))
