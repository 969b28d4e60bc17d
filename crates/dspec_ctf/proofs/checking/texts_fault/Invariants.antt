use Rattle.std.proofs.Common.{◌≡◌, ◌-◌, length}
use Rattle.std.specs.List.{range_with_len}
use Rattle.dspec_ctf.specs.Words.{text_fault_at, first_found}
use Rattle.dspec_ctf.proofs.checking.texts_fault.Given as goal

abbrev pub invariant-loop-place : goal.invariant-loop-place
invariant-loop-place l =
    first_found (text_fault_at l.epid l.kinds l.fields) (range_with_len l.place (length l.kinds - l.place))
    ≡ first_found (text_fault_at l.epid l.kinds l.fields) (range_with_len 0 (length l.kinds))
