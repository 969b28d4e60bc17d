use Rattle.std.proofs.Common.{◌≡◌, ◌≤◌, ◌+◌, ◌++◌, drop, length}
use Rattle.std.specs.Prelude.{slice_range, vec_capacity}
use Rattle.dspec_ctf.specs.Words.{events, filled_packets, filled_size, front_by}
use Rattle.dspec_ctf.proofs.Filling.{written_then}
use Rattle.dspec_ctf.proofs.filled.put_filled.Given as goal

-- The packet that isn't ended holds the records from a place on, whose events the body has; with it and the records to come, all packets are written.
abbrev pub invariant-loop-place : goal.invariant-loop-place
invariant-loop-place l = record {
  after : l.from ≤ l.place;
  body : l.body.items ≡ events l.stream.enablings.now (slice_range l.recs l.from l.place);
  fits : front_by l.timed + length l.body.items ≤ filled_size;
  room : vec_capacity l.initial.out ≤ vec_capacity l.out;
  body_room : vec_capacity l.initial.body ≤ vec_capacity l.body;
  written : written_then l.timed l.stream.enablings.now l.stream.uuid l.stream.missed l.stream.cpu l.out.items (slice_range l.recs l.from l.place) (drop l.place l.recs)
      ≡ l.initial.out.items ++ filled_packets l.timed l.stream.enablings.now l.stream.uuid l.stream.missed l.stream.cpu l.recs;
}
