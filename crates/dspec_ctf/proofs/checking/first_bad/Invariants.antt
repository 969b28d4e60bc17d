use Rattle.std.proofs.Common.{◌≡◌, ◌-◌, length, map}
use Rattle.std.specs.List.{range_with_len}
use Rattle.dspec_ctf.specs.Words.{bad_at, first_found}
use Rattle.dspec_ctf.proofs.checking.first_bad.Given as goal

abbrev pub invariant-loop-place : goal.invariant-loop-place
invariant-loop-place l =
    first_found (bad_at l.stamped (map (λ name. name.now) l.names)) (range_with_len l.place (length l.names - l.place))
    ≡ first_found (bad_at l.stamped (map (λ name. name.now) l.names)) (range_with_len 0 (length l.names))
