-- Serves proofs. The words of this crate for its proofs and for the crates above, in one place. Declares nothing.
pub mod Outside
unfoldable pub use Outside.*
pub use Rattle.dspec_threads.specs.Attends.{AsksAndAttends, AsksTimes, AttendsOnce, AttendsTimes, AttendsWithin, OpensAttending}
pub use Rattle.dspec_threads.specs.Belts.{taken_by, taken_from_belt}
pub use Rattle.dspec_threads.specs.Homes.{ComesHome, HasDone, IsHomeOf, IsLentOut, IsOfRank, Rank, WentHome}
pub use Rattle.dspec_threads.specs.Places.{all_whereabouts, AllIn, AreAtPlaces, AreCpusOf, AtOne, ComesIn, EachPair, is_in_at, IsAtPlace, IsAtPlaceSo, IsCallableInside, IsOneOut, KeepsPlace}
pub use Rattle.dspec_threads.specs.Places.{LooksAndSends, NothingOrDone, Rests, SendsOut, ServesInside, StaysIn, TendsPlace, waits_inside, Whereabouts, whereabouts, who_is_in}
pub use Rattle.dspec_threads.specs.Runs.{AreNew, ByThoseHome, called_home, EndsHome, HandsLane, IsLaneOf, IsRun, LooksLater, rank_of, RunningSession}
pub use Rattle.dspec_threads.specs.Said.{room_of_lane, rooms_of_lanes, said_by, said_into, said_to_each, SaysTo, SaysWithin}
pub use Rattle.dspec_threads.specs.Settled.{DoesVerdict, DoesVerdicts, seen_by, settled_by, settled_from, SettlesNext}
pub use Rattle.dspec_threads.specs.Waits.{AsksAndServes, AsksInVain, ServesAgain, ServesTimes, ServesWithin}
