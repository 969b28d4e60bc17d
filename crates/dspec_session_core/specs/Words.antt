-- Serves proofs. The words of this crate for its proofs and for the crates above, in one place. Declares nothing.
pub mod Outside
unfoldable pub use Outside.*
pub use Rattle.dspec_session_core.specs.Asking.{Asked}
pub use Rattle.dspec_session_core.specs.Awaiting.{Awaited, AwaitedIn, AwaitedSlots, waits_for_all}
pub use Rattle.dspec_session_core.specs.Batches.{FoundNone, GaveBack, GivenTo, IsNotTakenBack, Took, TookFrom}
pub use Rattle.dspec_session_core.specs.Cleaning.{Acknowledged, Cleaned, CleanedSlot, CleanedSlots, MissesOne, released, waits_for_none, waits_for_one}
pub use Rattle.dspec_session_core.specs.Closing.{ClosedFrom, ClosesAs, HoldInOrder, IsAtRest, IsClosedBy, IsLeftBy, LeftShows, rest_of}
pub use Rattle.dspec_session_core.specs.Consumers.{Consuming, IsConsumerOf, IsSameConsumer, pairs_of, set_up_of, Stays, taken_from, view_of}
pub use Rattle.dspec_session_core.specs.Leaving.{AllParted, AllSteady, AreLeft, AreParting, HasParted, IsClosing, IsLeft, IsParted, IsRestOf, Leaves, Steady}
pub use Rattle.dspec_session_core.specs.Owed.{owed_fate, owed_in, owed_more, owed_up, owes_settlement}
pub use Rattle.dspec_session_core.specs.Promised.{called_at, closed_up, deeds_by, entered_at, HoldRecords, IsMixOf, IsPromised, IsPromisedBy, IsWithSeals, KeepsPage, settle_deeds}
pub use Rattle.dspec_session_core.specs.Sessions.{Has, HasAt, IsCpuOf, IsFresh, IsSession, taken_at, worn_at}
pub use Rattle.dspec_session_core.specs.Stopping.{Stopped}
