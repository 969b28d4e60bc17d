-- Serves proofs. Words from the crates below, in one place. Declares nothing.
pub use Rattle.dspec_record.specs.Words.{accepted-parts, enabled, EnabledRows, Record, table_accepts, table_shape, table_text}
pub use Rattle.dspec_record.specs.declared.header.Header.TheVariants.{Two}
pub use Rattle.dspec_buffer.specs.Words.{BufferText}
pub use Rattle.dspec_ctf.specs.Words.{Accepts, AreFiled, AreRuns, as_written, CpuFiling, emptied_in, FilingRoom, GoesToFile, Hands, HandsNone, has_no_rest, HasAsMuchRoom, HasNoBatch, HaveAllBetween}
pub use Rattle.dspec_ctf.specs.Words.{IsFileRun, IsFoundRun, IsText, missed_packets, no_packets, of_file, OpensBatch, run_files, run_packet, run_packets, Spreads, told_by, unwritten}
pub use Rattle.dspec_ctf.specs.Words.{with_more_missed, without_rest}
pub use Rattle.dspec_ctf.specs.declared.form.Form.TheVariants.{ByTime}
pub use Rattle.dspec_ctf.specs.declared.in_memory.fault.PutFault.{PutFault}
pub use Rattle.dspec_ctf.specs.declared.in_memory.packet.Packet.{Packet}
pub use Rattle.dspec_ctf.specs.declared.names.Names.{Names}
pub use Rattle.dspec_ctf.specs.declared.rows.Run.{Run}
pub use Rattle.dspec_ctf.specs.declared.stream.PacketFault.{PacketFault}
pub use Rattle.dspec_ctf_reading.specs.Words.{event_of, EventRead, events_of, file_bytes, FileTells, Layout, layout_of, loss_of, MissedReadsBack, PacketRead, PartTells, read_file, RunsReadBack}
