-- Serves proofs. Words from the crates below, in one place. Declares nothing.
pub use Rattle.dspec_record.specs.Words.{Record}
pub use Rattle.dspec_record.specs.declared.field.Shape.{Shape}
pub use Rattle.dspec_buffer.specs.Words.{block, one}
pub use Rattle.dspec_word.specs.Words.{attempt, awaits, CanBeReleased, code_number, commit_act, commit_at, discard_act, discard_at, is_decided, is_inactive, open_at, reap_at, released, settle_at}
pub use Rattle.dspec_word.specs.Words.{SlotState, speculate_act, speculate_at, Speculation, word_number}
pub use Rattle.dspec_word.specs.declared.act.Act.{Act}
pub use Rattle.dspec_word.specs.declared.act.Act.TheVariants.{Attempt, Granted, Idle, Void}
pub use Rattle.dspec_word.specs.declared.code.Code.{Code}
pub use Rattle.dspec_word.specs.declared.code.Code.TheVariants.{Active, ActiveMany, ActiveOne, Committing, CommittingMany, Discarding, Inactive}
pub use Rattle.dspec_deeds.specs.Own.{taken}
pub use Rattle.dspec_deeds.specs.Words.{ack, answer_of, author, batches, callers, calls, CanClose, closed_cpus, closed_slot, closed_slots, closing, code_at, commit_fate, committed, committed_fate}
pub use Rattle.dspec_deeds.specs.Words.{contents, CpuLegal, discard_fate, discarded, empty_batch, facts, fate, fits_held, fits_principal, fits_speculative, Follows, growing, halted, HasAuthors}
pub use Rattle.dspec_deeds.specs.Words.{HaveLists, Headline, held, in_range, is_among, is_between, is_busy, is_call, is_commit, is_discard, is_drop, is_fill, is_free, is_granted, is_open, is_size}
pub use Rattle.dspec_deeds.specs.Words.{is_sole, is_sole_or_none, is_undecided, IsAllowed, IsLegal, IsSound, issue, IsWoven, joined, late, latest, MayComeBy, missed_busy, numbers_below, opened}
pub use Rattle.dspec_deeds.specs.Words.{opened_since, opens, owed, owing, part, Pays, present, ReadsAlike, releaser, releases, report, reports, Ruling, same_actor, same_id, scan, sealed_last}
pub use Rattle.dspec_deeds.specs.Words.{Sealing, seals, seals_now, settle_fate, settled, settled_fate, SettlesAs, solo, solo_of, spoken_granted, standing, start_fault, times, undecided, verdict}
pub use Rattle.dspec_deeds.specs.Words.{waiting, WaitsUndecided, word_at, woven}
pub use Rattle.dspec_deeds.specs.declared.calls.Actor.{Actor}
pub use Rattle.dspec_deeds.specs.declared.calls.Actor.TheVariants.{Consumer, Cpu}
pub use Rattle.dspec_deeds.specs.declared.calls.Answer.{Answer}
pub use Rattle.dspec_deeds.specs.declared.calls.ConsumerOp.{ConsumerOp}
pub use Rattle.dspec_deeds.specs.declared.calls.CpuOp.{CpuOp}
pub use Rattle.dspec_deeds.specs.declared.calls.Op.{Op}
pub use Rattle.dspec_deeds.specs.declared.calls.Served.{Served}
pub use Rattle.dspec_deeds.specs.declared.calls.Turn.{Turn}
pub use Rattle.dspec_deeds.specs.declared.calls.Turn.TheVariants.{BeginConsumer, BeginCpu, RunConsumer, RunCpu, Step}
pub use Rattle.dspec_deeds.specs.declared.config.Config.{Config}
pub use Rattle.dspec_deeds.specs.declared.config.StartFault.{StartFault}
pub use Rattle.dspec_deeds.specs.declared.config.StartFault.TheVariants.{BufSize, Calls, Cpus, Issues, Specs, SpecSize}
pub use Rattle.dspec_deeds.specs.declared.deed.DecideFate.{DecideFate}
pub use Rattle.dspec_deeds.specs.declared.deed.Deed.{Deed}
pub use Rattle.dspec_deeds.specs.declared.deed.Deed.TheVariants.{Commit, Discard, Halt, Miss, Opened, Release, Scan, Seal, Settle, Speculate, Trace}
pub use Rattle.dspec_deeds.specs.declared.deed.SpeculateFate.{SpeculateFate}
pub use Rattle.dspec_deeds.specs.declared.deed.TraceFate.{TraceFate}
