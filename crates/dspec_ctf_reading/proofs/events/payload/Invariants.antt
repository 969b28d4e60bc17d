use Rattle.std.proofs.Common.{◌≡◌, ◌≤◌, map, drop, length}
use Rattle.dspec_ctf_reading.specs.Words.{read_payload, told_field}
use Rattle.dspec_ctf_reading.proofs.EventLemmas.{under_names}
use Rattle.dspec_ctf_reading.proofs.events.payload.Given as goal

abbrev pub invariant-loop-field : goal.invariant-loop-field
invariant-loop-field l = record {
  so_far : read_payload (map told_field l.fields) l.bytes ≡ under_names l.fields l.values.items (read_payload (map told_field (drop l.field-index l.fields)) l.rest);
  count : length l.values.items ≡ l.field-index;
  within : length l.rest ≤ length l.bytes;
}
