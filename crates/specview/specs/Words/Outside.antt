-- Serves proofs. Words from the crates below, in one place. Declares nothing.
pub use Rattle.dspec_record.specs.Words.{default_fields, enabled, enabled-IsLimited, EnabledRows, fits, IsShape, layout, layout-IsShape, Record, table-shapes_fit, table-texts_differ}
pub use Rattle.dspec_record.specs.Words.{table-texts_fit, table_accepts, table_shape, table_text, within_limit}
pub use Rattle.dspec_record.specs.declared.field.Shape.{Shape}
pub use Rattle.dspec_record.specs.declared.header.Header.{Header}
pub use Rattle.dspec_record.specs.declared.header.Header.TheVariants.{One}
pub use Rattle.dspec_buffer.specs.Words.{extent}
pub use Rattle.dspec_deeds.specs.Words.{accepted, accepts, accepts_now, active, batch_records, batches, contents, drops_of, growing, is_drop, IsAllowed, IsLegal, numbers_below, Offer, offers}
pub use Rattle.dspec_deeds.specs.Words.{one_if, report, reports, Sealing, seals_now, start_fault, stream, total}
pub use Rattle.dspec_deeds.specs.declared.config.Config.{Config}
pub use Rattle.dspec_deeds.specs.declared.config.StartFault.{StartFault}
pub use Rattle.dspec_deeds.specs.declared.deed.Deed.{Deed}
pub use Rattle.dspec_deeds.specs.declared.report.Report.{Report}
pub use Rattle.dspec_interleaving.specs.Words.{or_else, setup_fault, worn_count}
pub use Rattle.dspec_interleaving.specs.declared.outcome.Outcome.{Outcome}
pub use Rattle.dspec_interleaving.specs.declared.outcome.PlayFault.{PlayFault}
pub use Rattle.dspec_ctf.specs.Words.{Accepts, ArePacketsOfRecords, earlier, events, HasNoRecordPacket, metadata_text, packet, packet_of}
unfoldable pub use Rattle.dspec_ctf.specs.Words.{fault_of_metadata, form_fault, metadata_fault, names_fault}
pub use Rattle.dspec_ctf.specs.declared.fault.MetadataFault.{MetadataFault}
pub use Rattle.dspec_ctf.specs.declared.fault.MetadataFault.TheVariants.{NoStamp}
pub use Rattle.dspec_ctf.specs.declared.form.Form.{Form}
pub use Rattle.dspec_ctf.specs.declared.form.Form.TheVariants.{AsTaken, ByTime}
pub use Rattle.dspec_ctf.specs.declared.names.Names.TheVariants.{Numbered}
pub use Rattle.dspec_ctf.specs.declared.stream.PacketFault.{PacketFault}
pub use Rattle.dspec_schedule.specs.Words.{HasOneHeader, header_of, Plan, plan_of, printed_text}
unfoldable pub use Rattle.dspec_schedule.specs.Words.{schedule_of}
pub use Rattle.dspec_schedule.specs.declared.fault.ScheduleFault.{ScheduleFault}
pub use Rattle.dspec_replay.specs.Words.{accepted_of, all_buffers, call_that_ended, fault_of, IsPlayedText, IsPlayOf, IsTextFault, shapes_of, table_of, whole_call_of}
pub use Rattle.dspec_replay.specs.declared.input.InputFault.{InputFault}
pub use Rattle.dspec_replay.specs.declared.texts.Replayed.{Replayed}
