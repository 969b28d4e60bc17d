-- Serves proofs. How the fields of a ring with its counts show what became of its blocks.
use Rattle.std.specs.Prelude.{◌≡◌, ◌+◌}
use Rattle.dspec_parking.specs.{Blocks.standing_in, Parkings.ParkingState, declared.parking.Parking.TheInside.Inside}

abbrev pub parking_shown : Inside → ParkingState
parking_shown s = record {
  ring = s.ring;
  counts = record { parked = s.parked; kept = s.kept; evicted = s.evicted; expired = s.expired; standing = standing_in s.ring.places };
}

abbrev pub IsParking : Inside → Type 0
IsParking s = s.parked ≡ s.kept + s.evicted + s.expired + standing_in s.ring.places
