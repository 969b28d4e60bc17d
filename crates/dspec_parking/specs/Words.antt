-- Serves proofs. The words of this crate for its proofs and for the crates above, in one place. Declares nothing.
pub use Rattle.dspec_parking.specs.Blocks.{bytes_at, FitsBeside, is_standing, IsInBounds, ParkingPlace, ParkingRing, standing_in, StoredBlock, used_bytes, without_oldest}
pub use Rattle.dspec_parking.specs.ByteFields.{bytes_shown, laid_from}
pub use Rattle.dspec_parking.specs.Bytes.{ring_bytes, RingBytes}
pub use Rattle.dspec_parking.specs.Laws.{EndsAll}
pub use Rattle.dspec_parking.specs.ParkingPage.{BlockFate, CountsEnds, entered, evicted, expired, fate_count, GoesBy, GoesOnBy, HasEnded, is_fate, is_given_up, KeepsParking, kept, left, OldestFirst}
pub use Rattle.dspec_parking.specs.ParkingPage.{ParkedOnce, Register, standing}
pub use Rattle.dspec_parking.specs.Parkings.{AreSums, CanHold, ExpiresBlocks, kept_place, nothing_parked, one_kept, one_parked, ParkingState, ParksBlock, some_expired, StandsAt, TakesInto, TakesOut}
pub use Rattle.dspec_parking.specs.Parkings.{told_at, told_of, with_block, with_kept}
pub use Rattle.dspec_parking.specs.Passing.{is_old, IsOld, none_passed, OldestIsOld, OldestIsYoung, one_more, PassesOldest}
pub use Rattle.dspec_parking.specs.Stored.{entry_bytes, IsRing, place_with, places_cut, ring_shown, StartsFrom, wrapped}
