use Rattle.std.proofs.Common.{◌≡◌, ◌-◌, length}
use Rattle.std.specs.List.{range_with_len}
use Rattle.dspec_ctf.specs.Words.{fault_at, first_found}
use Rattle.dspec_ctf.proofs.checking.all_fields_fault.Given as goal

abbrev pub invariant-loop-place : goal.invariant-loop-place
invariant-loop-place l =
    first_found (fault_at l.stamped l.enablings l.given) (range_with_len l.place (length l.enablings.rows - l.place))
    ≡ first_found (fault_at l.stamped l.enablings l.given) (range_with_len 0 (length l.enablings.rows))
