-- Serves proofs. How the fields of a ring of bytes show what it has.
use Rattle.std.specs.Prelude.{ℕ, ◌≡◌, ◌+◌, ◌-◌, ◌≤◌, ◌⊎◌, List, ◌++◌, take, drop, vec_len, vec_capacity}
use Rattle.dspec_parking.specs.{Bytes.RingBytes, Bytes.ring_bytes, declared.byte_ring.ByteRing.TheInside.Inside}

-- so many bytes from a place on, and on from the first place where they reach the end
abbrev pub laid_from : List ℕ → ℕ → ℕ → ℕ → List ℕ
laid_from bytes size start used = drop start (take (start + used) bytes) ++ take (start + used - size) bytes

abbrev pub bytes_shown : Inside → RingBytes
bytes_shown r = ring_bytes (laid_from r.bytes.items r.size r.start r.used) r.size

-- The memory is laid out as far as it was ever used; as long as some of it wasn't, the newest byte is the last one of it.
pub record IsByteRing (r : Inside) : Type 0 where
  pub room : r.size ≤ vec_capacity r.bytes
  pub long : vec_len r.bytes ≤ r.size
  pub start : r.start ≤ vec_len r.bytes
  pub used : r.used ≤ r.size
  pub laid : (vec_len r.bytes ≡ r.size) ⊎ (r.start + r.used ≡ vec_len r.bytes)
