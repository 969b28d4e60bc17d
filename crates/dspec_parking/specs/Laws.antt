-- Cited by calls. That each call on a ring of parked blocks keeps the page, and what the page says of the blocks.
use Rattle.std.specs.{List.AllByRecursion, Prelude.ℕ, Prelude.◌≡◌, Prelude.◌++◌, Prelude.[], Prelude.◌∷◌, Prelude.List, Prelude.length, Prelude.slice_get, Prelude.slice_set, Prelude.Some}
use Rattle.dspec_parking.specs.{Blocks.StoredBlock, Blocks.ParkingPlace, ParkingPage.Register, ParkingPage.HasEnded, ParkingPage.fate_count, ParkingPage.KeepsParking, ParkingPage.GoesOnBy}
use Rattle.dspec_parking.specs.{ParkingPage.OldestFirst, ParkingPage.standing, ParkingPage.kept, ParkingPage.evicted, ParkingPage.expired, ParkingPage.left, Parkings.ParkingState}
use Rattle.dspec_parking.specs.{Parkings.ParksBlock, Parkings.TakesOut, Parkings.ExpiresBlocks, Parkings.nothing_parked, declared.passed_places.PassedPlaces.PassedPlaces}
use Rattle.dspec_parking.specs.declared.parked.Parked.TheVariants as answer

abbrev pub BeginningKeepsPage : Type 0
BeginningKeepsPage = (size most : ℕ) → KeepsParking [] (nothing_parked size most)

-- the block is in the register from now on, as the newest; what ended in this call was evicted
abbrev pub ParkingKeepsPage : Type 0
ParkingKeepsPage = (register : Register) (b : StoredBlock) (gone : PassedPlaces) (old new : ParkingState) → KeepsParking register old → ParksBlock b (answer.Stands gone) old new
    → (later : Register) × GoesOnBy evicted register later × KeepsParking (later ++ record { block = b; fate = standing } ∷ []) new

-- What came out was parked, under this key and with these bytes, and had not ended: now it was kept. No other block is touched.
abbrev pub TakingKeepsPage : Type 0
TakingKeepsPage = (register : Register) (i : ℕ) (p : ParkingPlace) (bytes : List ℕ) (old new : ParkingState) → KeepsParking register old → TakesOut i p bytes old new
    → (n : ℕ) × (slice_get register n ≡ Some (record { block = p.block; fate = standing })) × (bytes ≡ p.block.bytes)
    × KeepsParking (slice_set register n (record { block = p.block; fate = kept })) new

-- what ended in this call expired
abbrev pub ExpiringKeepsPage : Type 0
ExpiringKeepsPage = (register : Register) (before most : ℕ) (gone : PassedPlaces) (old new : ParkingState) → KeepsParking register old → ExpiresBlocks before most gone old new
    → (later : Register) × GoesOnBy expired register later × KeepsParking later new

-- when the ring goes, each block has its end, and what stood there was left
pub record EndsAll (register : Register) (s : ParkingState) (later : Register) : Type 0 where
  pub goes : GoesOnBy left register later
  pub ended : AllByRecursion HasEnded later
  pub parked : s.counts.parked ≡ length later
  pub kept : s.counts.kept ≡ fate_count kept later
  pub evicted : s.counts.evicted ≡ fate_count evicted later
  pub expired : s.counts.expired ≡ fate_count expired later
  pub left : s.counts.standing ≡ fate_count left later

abbrev pub LeavingEndsAll : Type 0
LeavingEndsAll = (register : Register) (s : ParkingState) → KeepsParking register s → (later : Register) × EndsAll register s later

abbrev pub OldestGoFirst : Type 0
OldestGoFirst = (register : Register) (s : ParkingState) → KeepsParking register s → OldestFirst register
