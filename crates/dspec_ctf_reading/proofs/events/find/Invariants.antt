use Rattle.std.proofs.Common.{◌≡◌, ◌+◌, map, drop}
use Rattle.dspec_ctf_reading.specs.Words.{find_event, first_place, told_event}
use Rattle.dspec_ctf_reading.proofs.events.find.Given as goal

abbrev pub invariant-loop-place : goal.invariant-loop-place
invariant-loop-place l = record {
  goes_on : find_event l.id (map told_event l.events) ≡ find_event l.id (map told_event (drop l.place l.events));
  stands : first_place l.id (map told_event l.events) ≡ l.place + first_place l.id (map told_event (drop l.place l.events));
}
