-- Serves proofs. The words of this crate for its proofs and for the crates above, in one place. Declares nothing.
pub mod Outside
unfoldable pub use Outside.*
pub use Rattle.dspec_core.specs.Closings.{ClosesTo, IsClosable}
pub use Rattle.dspec_core.specs.Decisions.{decided_left, decides, deed_of, word_left}
pub use Rattle.dspec_core.specs.Machines.{Adds, ConsumerMakes, history, IsShownMachine, Makes, MayEnter, MayEnterOn, state_of}
pub use Rattle.dspec_core.specs.Shown.{batch_of_last_seal, first_or_empty, HasRecords, ShowsCpu, ShowsWords}
pub use Rattle.dspec_core.specs.Standing.{ConsumerStandsAt}
pub use Rattle.dspec_core.specs.Table.{aimed, entry_deeds, IsSlotPlace, IsStep, measured_by, moved_by, step_of, step_seen, steps_after, TellsAt, TellsHeld, TellsOwn}
pub use Rattle.dspec_core.specs.WorldViews.{WorldView}
pub use Rattle.dspec_core.specs.Worlds.{deed_passes, deeds_pass, is_due, IsWithin, MayCome, WorldInvariant}
