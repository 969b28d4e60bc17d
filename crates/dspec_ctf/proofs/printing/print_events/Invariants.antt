use Rattle.std.proofs.Common.{◌≡◌, ◌++◌, ◌-◌, length, string_bytes}
use Rattle.std.specs.List.{flat_map, range_with_len}
use Rattle.dspec_ctf.specs.Words.{event_text}
use Rattle.dspec_ctf.proofs.printing.print_events.Given as goal

abbrev pub invariant-loop-place : goal.invariant-loop-place
invariant-loop-place l =
    string_bytes l.text ++ flat_map (event_text l.form l.enablings l.names) (range_with_len l.place (length l.enablings.rows - l.place))
    ≡ string_bytes l.initial.text ++ flat_map (event_text l.form l.enablings l.names) (range_with_len 0 (length l.enablings.rows))
