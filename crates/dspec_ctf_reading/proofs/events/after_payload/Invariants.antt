use Rattle.std.proofs.Common.{◌≡◌, ◌≤◌, map, drop, length, option_map}
use Rattle.dspec_ctf_reading.specs.Words.{read_payload, told_field}
use Rattle.dspec_ctf_reading.proofs.events.after_payload.Given as goal

abbrev pub invariant-loop-field : goal.invariant-loop-field
invariant-loop-field l = record {
  so_far : option_map (λ p. p.1) (read_payload (map told_field l.fields) l.bytes) ≡ option_map (λ p. p.1) (read_payload (map told_field (drop l.field-index l.fields)) l.rest);
  within : length l.rest ≤ length l.bytes;
}
