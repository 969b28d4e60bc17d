use Rattle.std.proofs.Common.{◌≡◌, take, string_bytes}
use Rattle.std.specs.List.{flat_map}
use Rattle.dspec_schedule.specs.Words.{call_line}
use Rattle.dspec_schedule.proofs.printing.printed.Given as goal

abbrev pub invariant-loop-actor : goal.invariant-loop-actor
invariant-loop-actor l =
    string_bytes l.text ≡ flat_map (call_line l.initial.header l.streams) (take l.actor-index l.actor-items)
