use Rattle.std.proofs.Common.{◌≡◌, ◌+◌, ◌==◌, ℕ, take}
use Rattle.std.specs.{List.count_by, Prelude.slice_index}
use Rattle.dspec_ctf_reading.proofs.folder.counts.count_events.Given as goal

abbrev pub invariant-loop-event : goal.invariant-loop-event
invariant-loop-event l = (place : ℕ) → slice_index l.counts place ≡ slice_index l.fn.counts place + count_by (λ e. e.place == place) (take l.event-index l.events)
