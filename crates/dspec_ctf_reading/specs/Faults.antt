-- Cited by calls. What a fault says of the bytes.
use Rattle.std.specs.Option.{option_map, option_and_then}
use Rattle.std.specs.Prelude.{◌≡◌, ◌+◌, ℕ, zero, suc, Bool, true, false, List, length, Option, Some, None, IsSome, IfSome, IsSomeAnd}
use Rattle.dspec_ctf_reading.specs.Reading.{Layout, read_number, find_event, read_event}
use Rattle.dspec_ctf_reading.specs.declared.fault.EventFault.{EventFault, TheVariants.Unknown, TheVariants.Cut, TheVariants.Memory as no_memory}
use Rattle.dspec_ctf_reading.specs.declared.fault.EventsFault.{EventsFault}
use Rattle.dspec_ctf_reading.specs.declared.fault.MetadataReadFault.{MetadataReadFault, TheVariants.Line, TheVariants.TooLarge, TheVariants.Memory}

-- something else should stand in a line
abbrev pub is_misread : MetadataReadFault → Bool
is_misread (Line line expected) = true
is_misread (TooLarge line) = false
is_misread Memory = false

-- ---- events

-- it lies in the bytes
abbrev pub is_event_fault : EventFault → Bool
is_event_fault (Unknown id) = true
is_event_fault Cut = true
is_event_fault no_memory = false

-- it isn't that nobody knows the event
abbrev pub IsCutOrMemory : EventFault → Type 0
IsCutOrMemory (Unknown id) = ⊥
IsCutOrMemory Cut = Unit
IsCutOrMemory no_memory = Unit

-- the layout has the number with which the bytes begin, if they have one
abbrev pub HasKnown : Layout → List ℕ → Type 0
HasKnown layout bytes = IfSome (read_number 4 bytes) (λ p. IsSome (find_event p.0 layout.events))

-- What a fault says of the bytes. They begin with a number that the layout doesn't have; or with one that it has, if any, and with no event.
abbrev pub EventDue : Layout → List ℕ → EventFault → Type 0
EventDue layout bytes (Unknown id) = (option_map (λ p. p.0) (read_number 4 bytes) ≡ Some id) × (find_event id layout.events ≡ None)
EventDue layout bytes Cut = HasKnown layout bytes × (read_event layout bytes ≡ None)
EventDue layout bytes no_memory = Unit

-- the bytes after so many events
abbrev pub after_events : ℕ → Layout → List ℕ → Option (List ℕ)
after_events zero layout bytes = Some bytes
after_events (suc n) layout bytes = option_and_then (λ p. after_events n layout p.1) (read_event layout bytes)

-- the fault is due after so many events as it tells, at the byte that it tells
abbrev pub EventsDue : Layout → List ℕ → EventsFault → Type 0
EventsDue layout body told =
    IsSomeAnd (after_events told.before layout body) (λ rest. (told.at + length rest ≡ length body) × EventDue layout rest told.fault)
