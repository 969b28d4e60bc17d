-- Cited by calls. What each call on a ring of parked blocks did.
use Rattle.std.specs.Prelude.{ℕ, ◌≡◌, ◌+◌, ◌-◌, ◌^◌, ◌≤◌, ◌<◌, List, [], ◌∷◌, ◌++◌, length, take, drop, slice_get, slice_set, Option, Some, None, true, false, if◌then◌else◌}
use Rattle.dspec_parking.specs.{Blocks.StoredBlock, Blocks.ParkingPlace, Blocks.ParkingRing, Blocks.empty_ring, Passing.MakesRoom, Passing.PassesOld, declared.parked.Parked.Parked}
use Rattle.dspec_parking.specs.{declared.parked_block.ParkedBlock.ParkedBlock, declared.parking_counts.ParkingCounts.ParkingCounts, declared.passed_places.PassedPlaces.PassedPlaces}
use Rattle.dspec_parking.specs.declared.parked.Parked.TheVariants as answer

-- a ring, and what became of the blocks that were parked in it
pub record ParkingState : Type 0 where
  pub ring : ParkingRing
  pub counts : ParkingCounts

-- each block that was parked is counted once more: by its end, or as one that stands there
abbrev pub AreSums : ParkingCounts → Type 0
AreSums c = c.parked ≡ c.kept + c.evicted + c.expired + c.standing

-- a ring in which nothing was parked
abbrev pub nothing_parked : ℕ → ℕ → ParkingState
nothing_parked size most = record { ring = empty_ring size most; counts = record { parked = 0; kept = 0; evicted = 0; expired = 0; standing = 0 } }

-- a block of so many bytes fits an empty ring of this kind
abbrev pub CanHold : ParkingRing → ℕ → Type 0
CanHold ring n = (n ≤ ring.size) × (0 < ring.most)

-- a block is there, as the newest
abbrev pub with_block : StoredBlock → ParkingRing → ParkingRing
with_block b ring = record ring { places = ring.places ++ record { block = b; is_kept = false } ∷ [] }

abbrev pub one_parked : ℕ → ParkingCounts → ParkingCounts
one_parked evicted c = record c { parked = c.parked + 1; evicted = c.evicted + evicted; standing = c.standing - evicted + 1 }

-- A block was to be parked. It is larger than the ring; or no more can be counted; or it is the newest, and the fewest of the oldest made room for it.
abbrev pub ParksBlock : StoredBlock → Parked → ParkingState → ParkingState → Type 0
ParksBlock b answer.Refused old new = (CanHold old.ring (length b.bytes) → ⊥) × (new ≡ old)
ParksBlock b answer.Worn old new = CanHold old.ring (length b.bytes) × (old.counts.parked ≡ 2 ^ 64 - 1) × (new ≡ old)
ParksBlock b (answer.Stands gone) old new =
    (mid : ParkingRing) × MakesRoom (length b.bytes) gone old.ring mid × (new.ring ≡ with_block b mid) × (new.counts ≡ one_parked gone.blocks old.counts)

-- what is told of the block at a place: nothing where it was kept already
abbrev pub told_of : ParkingPlace → Option ParkedBlock
told_of p = if p.is_kept then None else Some (record { key = p.block.key; stamp = p.block.stamp; length = length p.block.bytes })

abbrev pub told_at : Option ParkingPlace → Option ParkedBlock
told_at None = None
told_at (Some p) = told_of p

-- the block of this place stands there still
abbrev pub StandsAt : ℕ → ParkingPlace → ParkingRing → Type 0
StandsAt i p ring = (slice_get ring.places i ≡ Some p) × (p.is_kept ≡ false)

abbrev pub kept_place : ParkingPlace → ParkingPlace
kept_place p = record p { is_kept = true }

abbrev pub with_kept : ℕ → ParkingPlace → ParkingRing → ParkingRing
with_kept i p ring = record ring { places = slice_set ring.places i (kept_place p) }

abbrev pub one_kept : ParkingCounts → ParkingCounts
one_kept c = record c { kept = c.kept + 1; standing = c.standing - 1 }

-- the block of this place came out whole, and its place has it no more
pub record TakesOut (i : ℕ) (p : ParkingPlace) (bytes : List ℕ) (old new : ParkingState) : Type 0 where
  pub stands : StandsAt i p old.ring
  pub whole : bytes ≡ p.block.bytes
  pub ring : new.ring ≡ with_kept i p old.ring
  pub counts : new.counts ≡ one_kept old.counts

abbrev pub some_expired : ℕ → ParkingCounts → ParkingCounts
some_expired n c = record c { expired = c.expired + n; standing = c.standing - n }

-- So it came out into this buffer, which keeps what follows it; or nothing stands there, or its block is longer than the buffer.
abbrev pub TakesInto : ℕ → Option ParkedBlock → List ℕ → List ℕ → ParkingState → ParkingState → Type 0
TakesInto i (Some b) buffer filled old new =
    (p : ParkingPlace) × (told_of p ≡ Some b) × TakesOut i p (take b.length filled) old new × (drop b.length filled ≡ drop b.length buffer) × (length filled ≡ length buffer)
TakesInto i None buffer filled old new = ((p : ParkingPlace) → StandsAt i p old.ring → length buffer < length p.block.bytes) × (filled ≡ buffer) × (new ≡ old)

-- the oldest expired, up to the first that isn't old
pub record ExpiresBlocks (before most : ℕ) (gone : PassedPlaces) (old new : ParkingState) : Type 0 where
  pub ring : PassesOld before most gone old.ring new.ring
  pub counts : new.counts ≡ some_expired gone.blocks old.counts
