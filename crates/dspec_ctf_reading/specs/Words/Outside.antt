-- Serves proofs. Words from the crates below, in one place. Declares nothing.
pub use Rattle.dspec_record.specs.Words.{accepted-parts, both, enabled, EnabledRows, fits, IsAccepted, little_endian, Record, stamp_fits, width}
pub use Rattle.dspec_record.specs.declared.field.Field.{Field}
pub use Rattle.dspec_record.specs.declared.field.Field.TheVariants.{Eight, Four, One, Two}
pub use Rattle.dspec_record.specs.declared.header.Header.{Header}
pub use Rattle.dspec_probe.specs.Words.{float, is_next, name_place, next_words, signed}
pub use Rattle.dspec_probe.specs.declared.kind.Kind.{Kind}
pub use Rattle.dspec_probe.specs.declared.kind.Kind.TheVariants.{Float, Signed, Text, TextNext, Unsigned}
pub use Rattle.dspec_probe.specs.declared.probes.ProbeNames.{ProbeNames}
pub use Rattle.dspec_ctf.specs.Words.{Accepts, AreRuns, can_mean, clock_text, clock_uuid, earlier, environment_text, event, event_fields, events, field_line, filled_size, first_found, front_size}
pub use Rattle.dspec_ctf.specs.Words.{given_lines, has_stamp, is_identifier, is_text, is_text_before, kind_line, kind_type, label_item, labels_at, missed_packets, next_in_front, of_file, packet}
pub use Rattle.dspec_ctf.specs.Words.{packet_around, packet_count, portions, portions_from, run_files, run_packet, run_packets, run_records, seconds_text, span_by, span_bytes, span_of, stamp_bytes}
pub use Rattle.dspec_ctf.specs.Words.{stamp_line, start_text, stream_text, takes_another, text_line, ticks_text, told_by, type_name, typed_line, values_bytes, words_at}
unfoldable pub use Rattle.dspec_ctf.specs.Words.{bad_at, bad_label_at, bad_name, begins_well, clock_back, clock_start, context_bytes, event_front, event_name, event_number, event_text, events_fault}
unfoldable pub use Rattle.dspec_ctf.specs.Words.{fault_at, field_lines, fields_fault, filled_around, filled_packet, filled_packets, first_bad, first_bad_label, form_fault, front_bytes, given_line}
unfoldable pub use Rattle.dspec_ctf.specs.Words.{header_bytes, hex, hyphened, is_label, is_label_byte, is_letter, is_word_byte, label_fault_at, label_items, labelled_type, labels_fault}
unfoldable pub use Rattle.dspec_ctf.specs.Words.{metadata_fault, names_fault, origin_fault, origin_text, packet_at, part_at, process_fault, process_text, text_fault_at, text_type, texts_fault}
unfoldable pub use Rattle.dspec_ctf.specs.Words.{timed_packets, trace_back, trace_front, types_text, unfit, uuid_text}
pub use Rattle.dspec_ctf.specs.declared.fault.MetadataFault.TheVariants.{Name}
pub use Rattle.dspec_ctf.specs.declared.fault.NameFault.{NameFault}
pub use Rattle.dspec_ctf.specs.declared.fault.NameFault.TheVariants.{Event, EventCount, Field as FieldName, FieldCount, Label, Word}
pub use Rattle.dspec_ctf.specs.declared.fault.NameKind.{NameKind}
pub use Rattle.dspec_ctf.specs.declared.form.Form.{Form}
pub use Rattle.dspec_ctf.specs.declared.form.Form.TheVariants.{AsTaken, ByTime}
pub use Rattle.dspec_ctf.specs.declared.names.Names.{Names}
pub use Rattle.dspec_ctf.specs.declared.names.Names.TheVariants.{Given, Numbered}
pub use Rattle.dspec_ctf.specs.declared.origin.ClockStart.{ClockStart}
pub use Rattle.dspec_ctf.specs.declared.origin.Origin.{Origin}
pub use Rattle.dspec_ctf.specs.declared.origin.Process.{Process}
pub use Rattle.dspec_ctf.specs.declared.rows.Run.{Run}
