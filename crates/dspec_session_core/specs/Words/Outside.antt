-- Serves proofs. Words from the crates below, in one place. Declares nothing.
pub use Rattle.dspec_record.specs.Words.{enabled, EnabledRows, Record, table_accepts, table_shape, table_text}
pub use Rattle.dspec_record.specs.declared.field.Shape.{Shape}
pub use Rattle.dspec_buffer.specs.Words.{block, BufferText, HasPieces, one, Piece, records}
pub use Rattle.dspec_word.specs.Words.{awaits, settle_at, SlotState, Speculation}
pub use Rattle.dspec_word.specs.declared.act.Act.TheVariants.{Granted, Idle}
pub use Rattle.dspec_word.specs.declared.code.Code.{Code}
pub use Rattle.dspec_deeds.specs.Own.{taken}
pub use Rattle.dspec_deeds.specs.Words.{accepted_first, ack, active, author, bare, batch_records, batches, CanClose, closed_cpus, closed_slot, closed_slots, closing, contents, discarded}
pub use Rattle.dspec_deeds.specs.Words.{empty_batch, fits_principal, growing, halted, HasAuthors, HaveLists, Headline, held, is_busy, is_copied, is_granted, is_undecided, IsLegal, IsOwn, IsSound}
pub use Rattle.dspec_deeds.specs.Words.{issue, IsWoven, Offer, offers, opened, owed, part, present, releases, report, Ruling, scan, Sealing, settle_fate, settled, solo, start_fault, stream}
pub use Rattle.dspec_deeds.specs.Words.{trace_kept, verdict, WaitsUndecided, word_at, woven}
pub use Rattle.dspec_deeds.specs.declared.calls.Actor.{Actor}
pub use Rattle.dspec_deeds.specs.declared.calls.Actor.TheVariants.{Consumer, Cpu as CpuActor}
pub use Rattle.dspec_deeds.specs.declared.config.Config.{Config}
pub use Rattle.dspec_deeds.specs.declared.deed.DecideFate.{DecideFate}
pub use Rattle.dspec_deeds.specs.declared.deed.Deed.{Deed}
pub use Rattle.dspec_deeds.specs.declared.deed.Deed.TheVariants.{Commit, Halt, Release, Seal, Settle, Trace}
pub use Rattle.dspec_deeds.specs.declared.report.Report.{Report}
pub use Rattle.dspec_promise.specs.Words.{all_did, AtEachMoment, DecidedSoFar, Did, did, emptied, GivenOnce, HaveReasons, Promise, service}
pub use Rattle.dspec_interleaving.specs.Words.{IsCloseOf, own_closed}
pub use Rattle.dspec_table.specs.Words.{acted, AreSeats, at_stop, cpu_of, doer, Ended, fresh_seat, FreshSeats, here, IsAt, IsConsumerAt, known, known_there, last_set_up, last_words, LoadedAck}
pub use Rattle.dspec_table.specs.Words.{LookedWord, MayReap, more, of_consumer, ReapedWord, same_holder, set_up, Shows, Since, StoredActivity, StoredAsk, with_ask}
pub use Rattle.dspec_table.specs.declared.last.LastWords.{LastWords}
pub use Rattle.dspec_table.specs.declared.rule.View.{View}
pub use Rattle.dspec_table.specs.declared.seats.ConsumerSeat.{ConsumerSeat}
pub use Rattle.dspec_table.specs.declared.seats.CpuSeat.{CpuSeat}
pub use Rattle.dspec_ring.specs.Words.{consumer_moved, ConsumerKnows, CpuKnows, IsUnusedConsumer, IsUnusedCpu, Pair}
pub use Rattle.dspec_ring.specs.declared.batch.Batch.{Batch}
pub use Rattle.dspec_cpu.specs.Words.{AreItsWords, AreSealed, Belongs, called, CallsMade, config_of, config_of_rest, CpuIdentity, end_of, HasList, held_back_of, held_back_of_rest, identity}
pub use Rattle.dspec_cpu.specs.Words.{IsLegalPart, IsPartOf, IsSameRest, IsSealed, IsSteady, no_calls, number_in, number_of_rest, rest_with, RestHasList, schema_of, schema_of_rest, seat_of}
pub use Rattle.dspec_cpu.specs.Words.{settled_did, spare_of, waiting, words_of, worn_of, worn_of_rest}
pub use Rattle.dspec_cpu.specs.declared.cpu.Cpu.{Cpu}
pub use Rattle.dspec_cpu.specs.declared.rest.CpuRest.{CpuRest}
pub use Rattle.dspec_cpu.specs.declared.shared.Shared.{Shared}
