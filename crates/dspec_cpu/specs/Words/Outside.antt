-- Serves proofs. Words from the crates below, in one place. Declares nothing.
pub use Rattle.dspec_record.specs.Words.{Record}
pub use Rattle.dspec_record.specs.declared.field.Shape.{Shape}
pub use Rattle.dspec_buffer.specs.Words.{block, BufferText, bytes, HasPieces, one, Piece, piece_fits, Stored}
pub use Rattle.dspec_word.specs.Words.{awaits, CanBeReleased, code_number, commit_act, commit_at, discard_act, discard_at, is_decided, is_inactive, open_at, settle_at, SlotState, speculate_act}
pub use Rattle.dspec_word.specs.Words.{speculate_at, Speculation, word_number}
pub use Rattle.dspec_word.specs.declared.act.Act.{Act}
pub use Rattle.dspec_word.specs.declared.act.Act.TheVariants.{Attempt, Granted, Idle, Void}
pub use Rattle.dspec_word.specs.declared.code.Code.{Code}
pub use Rattle.dspec_word.specs.declared.code.Code.TheVariants.{Active, ActiveMany, ActiveOne, Committing, CommittingMany, Discarding, Inactive}
pub use Rattle.dspec_deeds.specs.Words.{ack, active, bare, callers, calls, committed_fate, contents, count_of, CountsWithin, CpuLegal, CpuRow, decided_stopped, dropped_in, fits_principal}
pub use Rattle.dspec_deeds.specs.Words.{fits_speculative, growing, halted, held, in_range, is_among, is_between, is_commit, is_copied, is_discard, is_fill, is_granted, is_halt, is_lost, is_of}
pub use Rattle.dspec_deeds.specs.Words.{is_seal, is_size, IsLegal, IsOwn, IsSound, issue, joined, last_called, mark, missed_busy, Offer, offers, one_if, opened, owed, own_side, part, present}
pub use Rattle.dspec_deeds.specs.Words.{records_of_report, report, same_id, scan, sealed_last, seals, settle_fate, settled, settled_fate, SettlesAs, ShowsOwnState, solo, spoken_granted}
pub use Rattle.dspec_deeds.specs.Words.{spoken_stopped, start_fault, StateParts, verdict, word_at}
pub use Rattle.dspec_deeds.specs.declared.calls.Actor.TheVariants.{Cpu, Cpu as CpuActor}
pub use Rattle.dspec_deeds.specs.declared.calls.CpuOp.{CpuOp}
pub use Rattle.dspec_deeds.specs.declared.calls.Decided.{Decided}
pub use Rattle.dspec_deeds.specs.declared.calls.Opening.{Opening}
pub use Rattle.dspec_deeds.specs.declared.calls.Served.{Served}
pub use Rattle.dspec_deeds.specs.declared.calls.Spoken.{Spoken}
pub use Rattle.dspec_deeds.specs.declared.calls.Traced.{Traced}
pub use Rattle.dspec_deeds.specs.declared.config.Config.{Config}
pub use Rattle.dspec_deeds.specs.declared.config.StartFault.{StartFault}
pub use Rattle.dspec_deeds.specs.declared.deed.DecideFate.{DecideFate}
pub use Rattle.dspec_deeds.specs.declared.deed.DecideFate.TheVariants.{Copied}
pub use Rattle.dspec_deeds.specs.declared.deed.Deed.{Deed}
pub use Rattle.dspec_deeds.specs.declared.deed.Deed.TheVariants.{Commit, Discard, Miss, Opened, Release, Scan, Seal, Settle, Speculate, Trace}
pub use Rattle.dspec_deeds.specs.declared.deed.TraceFate.{TraceFate}
pub use Rattle.dspec_deeds.specs.declared.report.Report.{Report}
pub use Rattle.dspec_promise.specs.Words.{By, commit, Did, did, discard, emptied, service, speculated, traced}
pub use Rattle.dspec_cpu_state.specs.Words.{counts_of, HasRoom, is_stopped_opening, IsCaller, IsRoomy, one_more_worn, parts_of_side, report_of, ShowsList, with_decided, with_fate, with_opening}
pub use Rattle.dspec_cpu_state.specs.declared.counts.Counts.{Counts}
pub use Rattle.dspec_cpu_state.specs.declared.cpu_state.CpuState.{CpuState}
pub use Rattle.dspec_interleaving.specs.Words.{idle_progress, own_closed, own_closed_slot}
pub use Rattle.dspec_table.specs.Words.{ack_place, activity_place, ask_place, at_activity, at_exchange, at_word, Attempts, calling, CommitsNow, cpu_of, Entered, EnteredIn, flight_after, Found}
pub use Rattle.dspec_table.specs.Words.{fresh_seat, here, Holder, IfCommitting, IsAt, IsInFlight, IsOn, known, last_set_up, last_words, LoadedActivity, LoadedAsk, LoadedWord, MayLoad, MaySettle}
pub use Rattle.dspec_table.specs.Words.{MayTry, more, nothing, number_of, of_cpu, OpenedWord, OwnCommit, part_of, ReleasedWord, set_up, SettledWord, shown, Shows, Since, slot_place, TriedWord}
pub use Rattle.dspec_table.specs.declared.doing.Doing.{Doing}
pub use Rattle.dspec_table.specs.declared.last.LastWords.{LastWords}
pub use Rattle.dspec_table.specs.declared.rule.View.{View}
pub use Rattle.dspec_table.specs.declared.seats.CpuSeat.{CpuSeat}
pub use Rattle.dspec_ring.specs.Words.{cpu_moved, CpuKnows, Pair}
pub use Rattle.dspec_ring.specs.declared.batch.Batch.{Batch}
