use Rattle.std.proofs.Common.{◌≡◌, length, map, ◌++◌, ◌-◌, option_map}
use Rattle.dspec_ctf_reading.specs.Words.{read_event_texts, told_event}
use Rattle.dspec_ctf_reading.proofs.entries.events.Given as goal

abbrev pub invariant-loop : goal.invariant-loop
invariant-loop l =
    read_event_texts (length l.bytes) l.bytes ≡ option_map (λ events. map told_event l.found.items ++ events) (read_event_texts (length l.bytes - l.counter) l.rest)
