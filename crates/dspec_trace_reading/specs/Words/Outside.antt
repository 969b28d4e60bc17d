-- Serves proofs. Words from the crates below, in one place. Declares nothing.
pub use Rattle.dspec_record.specs.Words.{enabled, EnabledRows, Record, table_accepts, table_shape, table_text}
pub use Rattle.dspec_record.specs.declared.field.Shape.{Shape}
pub use Rattle.dspec_record.specs.declared.header.Header.{Header}
pub use Rattle.dspec_word.specs.Words.{Speculation}
pub use Rattle.dspec_deeds.specs.Words.{batches, drops_of, is_drop, IsLegal, IsOwn, one_if, part, start_fault, total}
pub use Rattle.dspec_deeds.specs.declared.calls.Actor.TheVariants.{Cpu}
pub use Rattle.dspec_deeds.specs.declared.config.Config.{Config}
pub use Rattle.dspec_deeds.specs.declared.config.StartFault.{StartFault}
pub use Rattle.dspec_deeds.specs.declared.deed.DecideFate.{DecideFate}
pub use Rattle.dspec_deeds.specs.declared.deed.Deed.{Deed}
pub use Rattle.dspec_deeds.specs.declared.deed.Deed.TheVariants.{Seal}
pub use Rattle.dspec_deeds.specs.declared.report.Report.{Report}
pub use Rattle.dspec_promise.specs.Words.{all_did, cpu_stream, Did, handed, HandedRecord, number, of, taken}
pub use Rattle.dspec_ring.specs.declared.batch.Batch.{Batch}
pub use Rattle.dspec_cpu.specs.Words.{AreSealed, CallsMade, waiting}
pub use Rattle.dspec_session_core.specs.Words.{HoldRecords, IsLeftBy, IsPromised, IsWithSeals}
pub use Rattle.dspec_session_core.specs.declared.left.Left.{Left}
pub use Rattle.dspec.specs.Words.{AreFrom, GotAll, HasLists, IsKept, IsOneListWith, IsTraced, left_batches, one_for, Passed, passed_from, ThenServed, WorkedOn}
pub use Rattle.dspec.specs.declared.both.Both.{Both}
pub use Rattle.dspec_probe.specs.Words.{Declared}
pub use Rattle.dspec_probe.specs.declared.probes.ProbeNames.{ProbeNames}
pub use Rattle.dspec_ctf.specs.Words.{Accepts, AreRuns, event_fields, IsText, labels_at, missed_packets, of_file, run_packets, told_by}
unfoldable pub use Rattle.dspec_ctf.specs.Words.{filled_packets, form_fault, metadata_fault, origin_fault, origin_text}
pub use Rattle.dspec_ctf.specs.declared.form.Form.{Form}
pub use Rattle.dspec_ctf.specs.declared.form.Form.TheVariants.{AsTaken, ByTime}
pub use Rattle.dspec_ctf.specs.declared.names.Names.{Names}
pub use Rattle.dspec_ctf.specs.declared.names.Names.TheVariants.{Given, Numbered}
pub use Rattle.dspec_ctf.specs.declared.origin.ClockStart.{ClockStart}
pub use Rattle.dspec_ctf.specs.declared.origin.Origin.{Origin}
pub use Rattle.dspec_ctf.specs.declared.rows.Run.{Run}
pub use Rattle.dspec_ctf_reading.specs.Words.{event_of, file_bytes, FileTells, FilledFilesReadBack, HasNumbers, last_missed, layout_of, MetadataTells, read_metadata, ticks_of}
unfoldable pub use Rattle.dspec_ctf_reading.specs.Words.{is_digit}
pub use Rattle.dspec_filing_reading.specs.Words.{ReadsPackets}
pub use Rattle.dspec_ctf_sink.specs.Words.{AddsAll, AddsBatch, AddsPacket, AddsRuns, AreNextOf, brought_to, capped, ChangesFiles, cpu_name, CpuFiles, file_of, FileWrite, GetsPacket, GetsRuns}
pub use Rattle.dspec_ctf_sink.specs.Words.{GetsTellings, HasFiles, HasNoCpu, HasSoManyRecords, IsBare, IsBatchLoss, IsBegun, IsNothing, IsNotTaken, IsTelling, IsTimedBegun, LeaveNone, LosesAll}
pub use Rattle.dspec_ctf_sink.specs.Words.{LosesBatch, LosesOfFiles, LosesPacket, LosesRest, lost_more, made_at, missed_on, path_of, Refuses, RefusesRun, row_name, StopsRun, Takes, TakesAll}
pub use Rattle.dspec_ctf_sink.specs.Words.{TellsMissed, TellsUntold, TimedTracing, Tracing, untold, whole_loss, written_in}
pub use Rattle.dspec_ctf_sink.specs.declared.fault.FolderFault.{FolderFault}
pub use Rattle.dspec_ctf_sink.specs.declared.losing.Loss.{Loss}
pub use Rattle.dspec_ctf_sink.specs.declared.telling.Telling.{Telling}
