use Rattle.std.proofs.Common.{◌≡◌, ◌++◌, take, string_bytes}
use Rattle.dspec_schedule.specs.Words.{records_text}
use Rattle.dspec_schedule.proofs.printing.print_records.Given as goal

abbrev pub invariant-loop-rec : goal.invariant-loop-rec
invariant-loop-rec l =
    string_bytes l.text ≡ string_bytes l.initial.text ++ records_text l.initial.header (take l.rec-index l.records)
