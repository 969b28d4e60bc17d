-- Serves proofs. Words from the crates below, in one place. Declares nothing.
pub use Rattle.dspec_record.specs.Words.{Record}
pub use Rattle.dspec_word.specs.Words.{awaits, commit_at, discard_at, reap_at, released, SlotState, Speculation}
pub use Rattle.dspec_word.specs.declared.act.Act.{Act}
pub use Rattle.dspec_word.specs.declared.act.Act.TheVariants.{Attempt, Granted, Idle, Void}
pub use Rattle.dspec_deeds.specs.Words.{ack, callers, in_range, is_among, scan}
pub use Rattle.dspec_deeds.specs.declared.calls.CpuOp.{CpuOp}
pub use Rattle.dspec_deeds.specs.declared.config.Config.{Config}
pub use Rattle.dspec_deeds.specs.declared.deed.Deed.{Deed}
pub use Rattle.dspec_interleaving.specs.Words.{idle_progress, is_alone, is_release, shown_commit, shown_discard}
pub use Rattle.dspec_table.specs.Words.{acted, activity_place, AreSeats, at_activity, at_exchange, at_word, Attempts, calling, cpu_of, Entered, FreshSeats, IsAt, IsDeciding, IsInFlight, IsOn, known}
pub use Rattle.dspec_table.specs.Words.{known_there, LoadedAck, LoadedActivity, LoadedWord, MayLoad, MayTry, number_of, set_up, shown, slot_place, TriedWord}
pub use Rattle.dspec_table.specs.declared.doing.Doing.{Doing}
pub use Rattle.dspec_table.specs.declared.rule.View.{View}
pub use Rattle.dspec_table.specs.declared.seats.CpuSeat.{CpuSeat}
