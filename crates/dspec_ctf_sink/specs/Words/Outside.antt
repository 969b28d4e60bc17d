-- Serves proofs. Words from the crates below, in one place. Declares nothing.
pub use Rattle.dspec_record.specs.Words.{enabled, enabled-IsLimited, EnabledRows, Record, table-shapes_fit, table-texts_differ, table-texts_fit, table_accepts, table_shape, table_text}
pub use Rattle.dspec_record.specs.declared.field.Shape.{Shape}
pub use Rattle.dspec_record.specs.declared.reading.ReadKind.{ReadKind}
pub use Rattle.dspec_buffer.specs.Words.{FaultHere}
pub use Rattle.dspec_deeds.specs.declared.report.Report.{Report}
pub use Rattle.dspec_ring.specs.declared.batch.Batch.{Batch}
pub use Rattle.dspec_session_core.specs.declared.left.Left.{Left}
pub use Rattle.dspec_ctf.specs.Words.{AreFilledOf, AreRuns, events, HasNoPacket, HasNoRecords, HasNoRun, IsFileRun, IsText, IsTooLong, missed_packets, run_packet, run_packets}
unfoldable pub use Rattle.dspec_ctf.specs.Words.{filled_packets, origin_fault, origin_text}
pub use Rattle.dspec_ctf.specs.declared.fault.MetadataFault.{MetadataFault}
pub use Rattle.dspec_ctf.specs.declared.form.Form.TheVariants.{AsTaken, ByTime}
pub use Rattle.dspec_ctf.specs.declared.names.Names.{Names}
pub use Rattle.dspec_ctf.specs.declared.origin.Origin.{Origin}
pub use Rattle.dspec_ctf.specs.declared.rows.Run.{Run}
pub use Rattle.dspec_ctf.specs.declared.stream.PacketFault.{PacketFault}
pub use Rattle.dspec_ctf.specs.declared.stream.PacketFault.TheVariants.{Memory}
pub use Rattle.dspec_ctf.specs.declared.stream.Stream.{Stream}
