-- Serves proofs. Words from the crates below, in one place. Declares nothing.
pub use Rattle.dspec_record.specs.Words.{Record}
pub use Rattle.dspec_record.specs.declared.field.Shape.{Shape}
pub use Rattle.dspec_buffer.specs.Words.{one, Piece, records}
pub use Rattle.dspec_word.specs.Words.{awaits, CanBeReleased, commit_at, is_decided, settle_at, SlotState, speculate_at, Speculation}
pub use Rattle.dspec_word.specs.declared.act.Act.{Act}
pub use Rattle.dspec_word.specs.declared.act.Act.TheVariants.{Attempt, Granted, Idle, Void}
pub use Rattle.dspec_word.specs.declared.code.Code.{Code}
pub use Rattle.dspec_word.specs.declared.code.Code.TheVariants.{Active, Discarding, Inactive}
pub use Rattle.dspec_deeds.specs.Own.{taken}
pub use Rattle.dspec_deeds.specs.Words.{accepted, ack, active, author, batch_records, batches, callers, calls, CanClose, closed_cpus, closed_slot, closed_slots, closing, committed, contents}
pub use Rattle.dspec_deeds.specs.Words.{CpuLegal, decided_stopped, discarded, empty_batch, fits_held, fits_principal, fits_speculative, growing, halted, HasAuthors, Headline, held, in_range}
pub use Rattle.dspec_deeds.specs.Words.{is_among, is_commit, is_copied, is_discard, is_granted, is_lost, is_open, is_undecided, IsAllowed, IsLegal, IsSound, issue, last_called, mark, missed_busy}
pub use Rattle.dspec_deeds.specs.Words.{numbers_below, Offer, own_side, OwnState, part, present, ReadsApart, report, reports, Ruling, same_actor, Sealing, seals, seals_now, settle_fate}
pub use Rattle.dspec_deeds.specs.Words.{settled_fate, SettlesAs, ShowsOwnState, speculative, spoken_granted, start_fault, stream, streams, trace_kept, undecided, verdict, word_at}
pub use Rattle.dspec_deeds.specs.declared.calls.Actor.{Actor}
pub use Rattle.dspec_deeds.specs.declared.calls.Actor.TheVariants.{Cpu, Cpu as CpuActor}
pub use Rattle.dspec_deeds.specs.declared.calls.Answer.{Answer}
pub use Rattle.dspec_deeds.specs.declared.calls.ConsumerOp.{ConsumerOp}
pub use Rattle.dspec_deeds.specs.declared.calls.CpuOp.{CpuOp}
pub use Rattle.dspec_deeds.specs.declared.calls.Op.{Op}
pub use Rattle.dspec_deeds.specs.declared.calls.Served.{Served}
pub use Rattle.dspec_deeds.specs.declared.calls.Turn.{Turn}
pub use Rattle.dspec_deeds.specs.declared.config.Config.{Config}
pub use Rattle.dspec_deeds.specs.declared.deed.DecideFate.{DecideFate}
pub use Rattle.dspec_deeds.specs.declared.deed.DecideFate.TheVariants.{Thrown}
pub use Rattle.dspec_deeds.specs.declared.deed.Deed.{Deed}
pub use Rattle.dspec_deeds.specs.declared.deed.Deed.TheVariants.{Commit, Discard, Halt, Opened, Release, Seal, Settle, Speculate, Trace}
pub use Rattle.dspec_deeds.specs.declared.deed.SpeculateFate.{SpeculateFate}
pub use Rattle.dspec_deeds.specs.declared.deed.TraceFate.{TraceFate}
pub use Rattle.dspec_deeds.specs.declared.report.Report.{Report}
pub use Rattle.dspec_cpu_state.specs.Words.{counts_of, HasRoom, IsCaller, IsFilledWith, IsRoomy, parts_of_side, report_of, ShowsList, with_decided, with_fate}
pub use Rattle.dspec_cpu_state.specs.declared.counts.Counts.{Counts}
pub use Rattle.dspec_cpu_state.specs.declared.cpu_state.CpuState.{CpuState}
pub use Rattle.dspec_interleaving.specs.Words.{all_ran, all_turned, asked, at_start, batch_at, begin_consumer, begin_cpu, begun_consumer, call_step, changes, cleaned_to, committed_by}
pub use Rattle.dspec_interleaving.specs.Words.{consumer_op_of, consumer_step, ConsumerStep, cpu_step, CpuStep, EndedCall, gives_at, HasHeadline, idle_cpus, idle_progress, is_about, is_actor}
pub use Rattle.dspec_interleaving.specs.Words.{is_counted, is_first, is_idle, is_told_worn, is_worn, IsCoherent, IsPlayingAt, IsSlot, keeps_on, Measured, measured, missed, most_steps, moved_to}
pub use Rattle.dspec_interleaving.specs.Words.{next_slot, OnItsWay, op_of, Playing, playing_at_start, PlayState, popped, progress_of, ran, record_passes, same_word, shown_commit, shown_discard}
pub use Rattle.dspec_interleaving.specs.Words.{shown_scan, shown_service, shown_speculate, spoken_at, StandsCpu, StandsState, step, step_cpu, stepped, steps_limit, stops, takes_at, to_end, turned}
pub use Rattle.dspec_interleaving.specs.Words.{worn_count}
pub use Rattle.dspec_interleaving.specs.declared.flight.CallPlace.{CallPlace}
pub use Rattle.dspec_interleaving.specs.declared.flight.CallPlace.TheVariants.{CommitLoad, CommitTry, DiscardLoad, DiscardTry, SpeculateLoad, SpeculateTry}
pub use Rattle.dspec_interleaving.specs.declared.flight.ConsumerFlight.{ConsumerFlight}
pub use Rattle.dspec_interleaving.specs.declared.flight.CpuProgress.{CpuProgress}
pub use Rattle.dspec_interleaving.specs.declared.flight.Spare.{Spare}
pub use Rattle.dspec_interleaving.specs.declared.refusal.StepFault.{StepFault}
pub use Rattle.dspec_interleaving.specs.declared.refusal.StepFault.TheVariants.{IdleStep, NoSuchActor}
