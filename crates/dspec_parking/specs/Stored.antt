-- Serves proofs. How the fields of a ring show its places: entries in order, and the bytes of their blocks one after another.
use Rattle.std.specs.List.{sum_by}
use Rattle.std.specs.Prelude.{ℕ, ◌≡◌, ◌+◌, ◌≤◌, ◌<◌, ◌%◌, ◌^◌, List, [], ◌∷◌, length, drop, take, slice_get, Some}
use Rattle.dspec_parking.specs.{Blocks.ParkingPlace, Blocks.ParkingRing, declared.block_ring.BlockRing.TheInside.Inside, declared.parking_entry.ParkingEntry.ParkingEntry}

abbrev pub entry_bytes : ParkingEntry → ℕ
entry_bytes e = e.length

-- the place of an entry, whose block has these bytes
abbrev pub place_with : ParkingEntry → List ℕ → ParkingPlace
place_with e bytes = record { block = record { key = e.key; stamp = e.stamp; bytes = bytes }; is_kept = e.is_kept }

-- each entry has the next bytes, as many as it says
abbrev pub places_cut : List ParkingEntry → List ℕ → List ParkingPlace
places_cut [] bytes = []
places_cut (e ∷ es) bytes = place_with e (take e.length bytes) ∷ places_cut es (drop e.length bytes)

-- a count of bytes as the ring has it
abbrev pub wrapped : ℕ → ℕ
wrapped n = n % 2 ^ 64

-- each entry starts where the one before ends
abbrev pub StartsFrom : ℕ → List ParkingEntry → Type 0
StartsFrom at [] = Unit {0}
StartsFrom at (e ∷ es) = (e.start ≡ wrapped at) × StartsFrom (at + e.length) es

abbrev pub ring_shown : Inside → ParkingRing
ring_shown r = record { size = r.bytes.capacity; most = r.entries.capacity; places = places_cut r.entries.items r.bytes.items }

pub record IsRing (r : Inside) : Type 0 where
  pub lengths : sum_by entry_bytes r.entries.items ≡ length r.bytes.items
  pub starts : StartsFrom r.passed r.entries.items
  pub wraps : r.passed < 2 ^ 64
  pub size : r.bytes.capacity < 2 ^ 64
  pub bytes : length r.bytes.items ≤ r.bytes.capacity
  pub entries : length r.entries.items ≤ r.entries.capacity

-- the block at this place has so many bytes
abbrev pub HasLength : ℕ → ℕ → ParkingRing → Type 0
HasLength i n ring = (p : ParkingPlace) × (slice_get ring.places i ≡ Some p) × (n ≡ length p.block.bytes)
