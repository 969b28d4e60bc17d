-- Serves proofs. Words from the crates below, in one place. Declares nothing.
pub use Rattle.dspec_record.specs.declared.field.Shape.{Shape}
pub use Rattle.dspec_word.specs.Words.{CanBeReleased, code_number, is_inactive, SlotState, Speculation, word_number}
pub use Rattle.dspec_word.specs.declared.act.Act.{Act}
pub use Rattle.dspec_word.specs.declared.code.Code.{Code}
pub use Rattle.dspec_word.specs.declared.code.Code.TheVariants.{Active, ActiveMany, ActiveOne, Committing, CommittingMany, Discarding, Inactive}
pub use Rattle.dspec_deeds.specs.Words.{Follows, in_range, is_undecided, IsSound, issue, present, releases, start_fault, verdict, word_at}
pub use Rattle.dspec_deeds.specs.declared.config.Config.{Config}
pub use Rattle.dspec_deeds.specs.declared.deed.Deed.{Deed}
pub use Rattle.dspec_deeds.specs.declared.deed.Deed.TheVariants.{Release}
pub use Rattle.dspec_interleaving.specs.Words.{consumer_op_of, Expects, is_about, IsCoherent, IsSlot, PlayState, progress_of, StandsConsumer, StandsCpu}
pub use Rattle.dspec_interleaving.specs.declared.flight.CallPlace.{CallPlace}
pub use Rattle.dspec_interleaving.specs.declared.flight.ConsumerFlight.{ConsumerFlight}
pub use Rattle.dspec_interleaving.specs.declared.flight.ConsumerProgress.{ConsumerProgress}
pub use Rattle.dspec_interleaving.specs.declared.flight.CpuProgress.{CpuProgress}
