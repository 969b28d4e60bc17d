use Rattle.std.proofs.Common.{◌≡◌, ◌++◌, take, string_bytes}
use Rattle.dspec_replay.specs.Words.{records_text}
use Rattle.dspec_replay.proofs.showing.print_records.Given as goal

abbrev pub invariant-loop-each : goal.invariant-loop-each
invariant-loop-each l =
    string_bytes l.text ≡ string_bytes l.initial.text ++ records_text l.initial.header (take l.each-index l.recs)
