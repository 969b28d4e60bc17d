-- Serves proofs. The words of this crate for its proofs and for the crates above, in one place. Declares nothing.
pub mod Outside
unfoldable pub use Outside.*
pub use Rattle.dspec_promise.specs.Deeds.{all_did, AtEachMoment, DecidedSoFar, did, done_by}
pub use Rattle.dspec_promise.specs.Promise.{AllDecided, By, commit, cpu_stream, Did, discard, discarded, dropped, emptied, emptied_fate, handed, HandedRecord, Happened, held, held_for, is_commit_of}
pub use Rattle.dspec_promise.specs.Promise.{is_discard_of, is_for, is_same_id, KeepsPromise, lost, Never, number, of, once_emptied, Promise, RecordFate, same_fate, service, some, specdropped}
pub use Rattle.dspec_promise.specs.Promise.{speculated, speculated_fate, taken, TellNumbers, traced, traced_fate, void, waits_for, WasDecided}
pub use Rattle.dspec_promise.specs.Reasons.{GivenOnce, HasReason, HaveReasons}
pub use Rattle.dspec_promise.specs.SameFates.{AreOffers, IsFate, IsOffer}
