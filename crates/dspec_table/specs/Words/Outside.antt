-- Serves proofs. Words from the crates below, in one place. Declares nothing.
pub use Rattle.dspec_record.specs.Words.{Record}
pub use Rattle.dspec_record.specs.declared.field.Shape.{Shape}
pub use Rattle.dspec_word.specs.Words.{awaits, CanBeReleased, commit_act, commit_at, discard_act, discard_at, is_decided, is_inactive, open_at, released, settle_at, SlotState, speculate_act}
pub use Rattle.dspec_word.specs.Words.{speculate_at, Speculation, word_number}
pub use Rattle.dspec_word.specs.declared.act.Act.{Act}
pub use Rattle.dspec_word.specs.declared.act.Act.TheVariants.{Attempt, Granted, Idle, Void}
pub use Rattle.dspec_word.specs.declared.code.Code.{Code}
pub use Rattle.dspec_word.specs.declared.code.Code.TheVariants.{Active, Committing, CommittingMany, Discarding, Inactive}
pub use Rattle.dspec_deeds.specs.Words.{ack, author, bare, callers, code_at, committed, committed_fate, discarded, Follows, halted, HasAuthors, in_range, is_among, is_commit, is_discard, is_fill}
pub use Rattle.dspec_deeds.specs.Words.{is_open, is_sole, is_undecided, IsSound, issue, joined, late, mark, opened, opened_since, opens, owed, part, present, releaser, releases, Ruling, same_actor}
pub use Rattle.dspec_deeds.specs.Words.{scan, settled, settled_fate, SettlesAs, solo, solo_of, spoken_granted, standing, StopsOrActs, undecided, verdict, word_at}
pub use Rattle.dspec_deeds.specs.declared.calls.Actor.{Actor}
pub use Rattle.dspec_deeds.specs.declared.calls.Actor.TheVariants.{Consumer, Cpu}
pub use Rattle.dspec_deeds.specs.declared.calls.Answer.{Answer}
pub use Rattle.dspec_deeds.specs.declared.calls.CpuOp.{CpuOp}
pub use Rattle.dspec_deeds.specs.declared.calls.Served.{Served}
pub use Rattle.dspec_deeds.specs.declared.config.Config.{Config}
pub use Rattle.dspec_deeds.specs.declared.config.Policy.TheVariants.{Switch}
pub use Rattle.dspec_deeds.specs.declared.deed.DecideFate.{DecideFate}
pub use Rattle.dspec_deeds.specs.declared.deed.Deed.{Deed}
pub use Rattle.dspec_deeds.specs.declared.deed.Deed.TheVariants.{Commit, Discard, Halt, Miss, Opened, Release, Scan, Settle, Speculate, Trace}
pub use Rattle.dspec_deeds.specs.declared.deed.SpeculateFate.{SpeculateFate}
pub use Rattle.dspec_interleaving.specs.Words.{begun, call_step, committed_by, consumer_step, cpu_step, CpuStep, discarded_by, idle_progress, is_counted, is_told_worn, is_worn, is_worn_answer}
pub use Rattle.dspec_interleaving.specs.Words.{Measured, measured, missed, op_of, popped, same_word, shown_commit, shown_discard, shown_scan, shown_service, shown_speculate, spoken_at, wears}
pub use Rattle.dspec_interleaving.specs.declared.flight.CallPlace.{CallPlace}
pub use Rattle.dspec_interleaving.specs.declared.flight.ConsumerFlight.{ConsumerFlight}
pub use Rattle.dspec_interleaving.specs.declared.flight.ConsumerProgress.{ConsumerProgress}
pub use Rattle.dspec_interleaving.specs.declared.flight.CpuProgress.{CpuProgress}
pub use Rattle.dspec_interleaving.specs.declared.flight.Spare.{Spare}
