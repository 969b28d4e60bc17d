-- Cited by calls. What the tail of a ring passes.
use Rattle.std.specs.List.{AllByRecursion}
use Rattle.std.specs.Prelude.{ℕ, ◌≡◌, ◌+◌, ◌≤◌, ◌<◌, ◌||◌, Bool, true, false, length, take, slice_get, nat_lt, Some, if◌then◌else◌}
use Rattle.dspec_parking.specs.{Blocks.ParkingPlace, Blocks.ParkingRing, Blocks.FitsBeside, Blocks.standing_in, Blocks.without_oldest, declared.passed_places.PassedPlaces.PassedPlaces}

abbrev pub none_passed : PassedPlaces
none_passed = record { places = 0; blocks = 0 }

-- one place more, whose block stood there still or not
abbrev pub one_more : Bool → PassedPlaces → PassedPlaces
one_more stood gone = record { places = gone.places + 1; blocks = if stood then gone.blocks + 1 else gone.blocks }

-- so many of the oldest places are gone, and so many of their blocks stood there still
pub record PassesOldest (gone : PassedPlaces) (old new : ParkingRing) : Type 0 where
  pub ring : new ≡ without_oldest gone.places old
  pub within : gone.places ≤ length old.places
  pub blocks : gone.blocks ≡ standing_in (take gone.places old.places)

-- the fewest of the oldest places that make room for so many bytes are gone
pub record MakesRoom (n : ℕ) (gone : PassedPlaces) (old new : ParkingRing) : Type 0 where
  pub oldest : PassesOldest gone old new
  pub room : FitsBeside new n
  pub fewest : (j : ℕ) → j < gone.places → ¬ FitsBeside (without_oldest j old) n

-- a place whose block was kept already, or has a stamp before this one
abbrev pub is_old : ℕ → ParkingPlace → Bool
is_old before p = p.is_kept || nat_lt p.block.stamp before

abbrev pub IsOld : ℕ → ParkingPlace → Type 0
IsOld before p = is_old before p ≡ true

-- the oldest place is old
abbrev pub OldestIsOld : ℕ → ParkingRing → Type 0
OldestIsOld before ring = (p : ParkingPlace) × (slice_get ring.places 0 ≡ Some p) × IsOld before p

abbrev pub OldestIsYoung : ℕ → ParkingRing → Type 0
OldestIsYoung before ring = (p : ParkingPlace) → slice_get ring.places 0 ≡ Some p → is_old before p ≡ false

-- the oldest places are gone, up to the first that isn't old, and no more than so many
pub record PassesOld (before most : ℕ) (gone : PassedPlaces) (old new : ParkingRing) : Type 0 where
  pub oldest : PassesOldest gone old new
  pub bound : gone.places ≤ most
  pub old_ones : AllByRecursion (IsOld before) (take gone.places old.places)
  pub rest : gone.places < most → OldestIsYoung before new
