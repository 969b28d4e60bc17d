-- Cited by calls. Two packets by hand, byte by byte, and what they say. Their trace has three events: one without fields, one with a field of eight
-- bytes, and one with fields of one byte and of two.
use Rattle.std.specs.Prelude.{ℕ, Bool, List, [], ◌∷◌, ◌++◌, slice_set, codes, Some, None}
use Rattle.dspec_ctf_reading.specs.Reading.{Layout, PacketRead}

abbrev pub sample_layout : Bool → Layout
sample_layout timed = record {
  timed = timed;
  events =
      record { id = 1; name = codes "open"; fields = [] }
      ∷ record { id = 2; name = codes "size"; fields = record { name = codes "bytes"; width = 8 } ∷ [] }
      ∷ record { id = 3; name = codes "state"; fields = record { name = codes "kind"; width = 1 } ∷ record { name = codes "port"; width = 2 } ∷ [] }
      ∷ [];
}

-- the magic number, the bytes 00, 11, .. ff, stream 0
abbrev pub sample_header : List ℕ
sample_header =
    193 ∷ 31 ∷ 252 ∷ 193 ∷ 0 ∷ 17 ∷ 34 ∷ 51 ∷ 68 ∷ 85 ∷ 102 ∷ 119 ∷ 136 ∷ 153 ∷ 170 ∷ 187 ∷ 204 ∷ 221 ∷ 238 ∷ 255 ∷ 0 ∷ 0 ∷ 0 ∷ 0 ∷ []

abbrev pub sample_uuid : List ℕ
sample_uuid = 0 ∷ 17 ∷ 34 ∷ 51 ∷ 68 ∷ 85 ∷ 102 ∷ 119 ∷ 136 ∷ 153 ∷ 170 ∷ 187 ∷ 204 ∷ 221 ∷ 238 ∷ 255 ∷ []

-- 600 bits, twice; five missed; CPU 1
abbrev pub sample_context : List ℕ
sample_context =
    88 ∷ 2 ∷ 0 ∷ 0 ∷ 0 ∷ 0 ∷ 0 ∷ 0 ∷ 88 ∷ 2 ∷ 0 ∷ 0 ∷ 0 ∷ 0 ∷ 0 ∷ 0 ∷ 5 ∷ 0 ∷ 0 ∷ 0 ∷ 0 ∷ 0 ∷ 0 ∷ 0 ∷ 1 ∷ 0 ∷ 0 ∷ 0 ∷ []

-- `open`, `size` with 7, `state` with 171 and 4660
abbrev pub sample_events : List ℕ
sample_events = 1 ∷ 0 ∷ 0 ∷ 0 ∷ 2 ∷ 0 ∷ 0 ∷ 0 ∷ 7 ∷ 0 ∷ 0 ∷ 0 ∷ 0 ∷ 0 ∷ 0 ∷ 0 ∷ 3 ∷ 0 ∷ 0 ∷ 0 ∷ 171 ∷ 52 ∷ 18 ∷ []

abbrev pub sample_bytes : List ℕ
sample_bytes = sample_header ++ (sample_context ++ sample_events)

-- the same, filled up by two bytes to 616 bits
abbrev pub filled_bytes : List ℕ
filled_bytes = slice_set sample_bytes 32 104 ++ 193 ∷ 0 ∷ []

-- the same with both sizes of these two bytes, the lower first
abbrev pub sized : ℕ → ℕ → List ℕ
sized low high = slice_set (slice_set (slice_set (slice_set sample_bytes 24 low) 25 high) 32 low) 33 high

abbrev pub sample_packet : PacketRead
sample_packet = record {
  uuid = sample_uuid;
  cpu = 1;
  discarded = 5;
  span = None;
  events =
      record { id = 1; name = codes "open"; stamp = None; values = [] }
      ∷ record { id = 2; name = codes "size"; stamp = None; values = (codes "bytes", 7) ∷ [] }
      ∷ record { id = 3; name = codes "state"; stamp = None; values = (codes "kind", 171) ∷ (codes "port", 4660) ∷ [] }
      ∷ [];
}

-- the same with a clock, from the stamp 2 to the stamp 5: 760 bits, seven missed; `open` at 2, `state` at 5
abbrev pub stamped_bytes : List ℕ
stamped_bytes = sample_header ++ (
    2 ∷ 0 ∷ 0 ∷ 0 ∷ 0 ∷ 0 ∷ 0 ∷ 0 ∷ 5 ∷ 0 ∷ 0 ∷ 0 ∷ 0 ∷ 0 ∷ 0 ∷ 0 ∷ 248 ∷ 2 ∷ 0 ∷ 0 ∷ 0 ∷ 0 ∷ 0 ∷ 0 ∷ 248 ∷ 2 ∷ 0 ∷ 0 ∷ 0 ∷ 0 ∷ 0 ∷ 0
    ∷ 7 ∷ 0 ∷ 0 ∷ 0 ∷ 0 ∷ 0 ∷ 0 ∷ 0 ∷ 1 ∷ 0 ∷ 0 ∷ 0
    ∷ 1 ∷ 0 ∷ 0 ∷ 0 ∷ 2 ∷ 0 ∷ 0 ∷ 0 ∷ 0 ∷ 0 ∷ 0 ∷ 0 ∷ 3 ∷ 0 ∷ 0 ∷ 0 ∷ 5 ∷ 0 ∷ 0 ∷ 0 ∷ 0 ∷ 0 ∷ 0 ∷ 0 ∷ 171 ∷ 52 ∷ 18 ∷ [])

abbrev pub stamped_packet : PacketRead
stamped_packet = record {
  uuid = sample_uuid;
  cpu = 1;
  discarded = 7;
  span = Some (2, 5);
  events =
      record { id = 1; name = codes "open"; stamp = Some 2; values = [] }
      ∷ record { id = 3; name = codes "state"; stamp = Some 5; values = (codes "kind", 171) ∷ (codes "port", 4660) ∷ [] }
      ∷ [];
}
