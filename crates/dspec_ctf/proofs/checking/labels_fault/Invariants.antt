use Rattle.std.proofs.Common.{◌≡◌, ◌-◌, length}
use Rattle.std.specs.List.{range_with_len}
use Rattle.dspec_ctf.specs.Words.{label_fault_at, first_found}
use Rattle.dspec_ctf.proofs.checking.labels_fault.Given as goal

abbrev pub invariant-loop-place : goal.invariant-loop-place
invariant-loop-place l =
    first_found (label_fault_at l.epid l.event) (range_with_len l.place (length l.event.fields.now - l.place))
    ≡ first_found (label_fault_at l.epid l.event) (range_with_len 0 (length l.event.fields.now))
