-- Cited by calls. What is parked: blocks, and the places of a ring that have them.
use Rattle.std.specs.{List.count_by, List.sum_by, Prelude.ℕ, Prelude.◌+◌, Prelude.◌≤◌, Prelude.◌<◌, Prelude.List, Prelude.[], Prelude.Bool, Prelude.length, Prelude.drop, Prelude.not}
use Rattle.dspec_parking.specs.declared.parking_key.ParkingKey.{ParkingKey}

-- a block: the key under which it was parked, its stamp, and its bytes
pub record StoredBlock : Type 0 where
  pub key : ParkingKey
  pub stamp : ℕ
  pub bytes : List ℕ

-- a place of a ring: its block, and whether that was kept already
pub record ParkingPlace : Type 0 where
  pub block : StoredBlock
  pub is_kept : Bool

-- a ring: how many bytes it has, how many places at the most, and its places, the oldest first
pub record ParkingRing : Type 0 where
  pub size : ℕ
  pub most : ℕ
  pub places : List ParkingPlace

-- the bytes that a place has in use, until the tail passes it
abbrev pub bytes_at : ParkingPlace → ℕ
bytes_at p = length p.block.bytes

abbrev pub used_bytes : List ParkingPlace → ℕ
used_bytes ps = sum_by bytes_at ps

-- its block stands there still
abbrev pub is_standing : ParkingPlace → Bool
is_standing p = not p.is_kept

abbrev pub standing_in : List ParkingPlace → ℕ
standing_in ps = count_by is_standing ps

abbrev pub empty_ring : ℕ → ℕ → ParkingRing
empty_ring size most = record { size = size; most = most; places = [] }

-- the bytes in use fit the ring, and the places are no more than it has
pub record IsInBounds (ring : ParkingRing) : Type 0 where
  pub bytes : used_bytes ring.places ≤ ring.size
  pub places : length ring.places ≤ ring.most

-- a block of so many bytes fits beside what is there
abbrev pub FitsBeside : ParkingRing → ℕ → Type 0
FitsBeside ring n = (used_bytes ring.places + n ≤ ring.size) × (length ring.places < ring.most)

-- so many of the oldest places are gone
abbrev pub without_oldest : ℕ → ParkingRing → ParkingRing
without_oldest k ring = record ring { places = drop k ring.places }
