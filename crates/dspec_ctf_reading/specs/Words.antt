-- Serves proofs. The words of this crate for its proofs and for the crates above, in one place. Declares nothing.
pub mod Outside
unfoldable pub use Outside.*
pub use Rattle.dspec_ctf_reading.specs.Faults.{after_events}
pub use Rattle.dspec_ctf_reading.specs.Files.{file_bytes, FileTells, last_missed, PartTells}
pub use Rattle.dspec_ctf_reading.specs.Folders.Checks.{IsSoundFrom, last_of, packet_as_read, RisesFrom, stamps_of, times_of}
pub use Rattle.dspec_ctf_reading.specs.Folders.Counts.{BeginsFile, CountsPacket, CountsPackets, span_from, up_to_64}
pub use Rattle.dspec_ctf_reading.specs.Folders.Whole.{AreWholeBefore, SplitsInto}
pub use Rattle.dspec_ctf_reading.specs.Fronts.{front_of, PacketSplit, split_after, split_packet, split_packet as packet_split}
pub use Rattle.dspec_ctf_reading.specs.Laws.{FilledFilesReadBack, MetadataTells, MissedReadsBack, RunsReadBack, with_its_events}
pub use Rattle.dspec_ctf_reading.specs.Layouts.{event_layout, event_of, event_read, field_layouts, given_for, given_name, is_timed, layout_by, layout_of, named_values, names_by, Naming, packet_read}
pub use Rattle.dspec_ctf_reading.specs.Layouts.{stamp_field, stamp_value}
pub use Rattle.dspec_ctf_reading.specs.Parts.{is_unread, test_of}
pub use Rattle.dspec_ctf_reading.specs.Reading.{EventLayout, EventRead, events_of, FieldLayout, find_event, FrontRead, Layout, loss_of, PacketRead, PartRead, read_body, read_bytes, read_counts}
pub use Rattle.dspec_ctf_reading.specs.Reading.{read_event, read_event_body, read_events, read_events_within, read_file, read_front, read_header, read_number, read_packet, read_packets_within}
pub use Rattle.dspec_ctf_reading.specs.Reading.{read_payload, read_span, read_stamp, read_this, sizes_agree, then_read, with_events}
pub use Rattle.dspec_ctf_reading.specs.ReadingMetadata.{digits_number, float_types, header_lines, past, past_or, read_clock, read_clock_start, read_clock_uuid, read_decimal, read_event_text}
pub use Rattle.dspec_ctf_reading.specs.ReadingMetadata.{read_event_texts, read_field, read_fields, read_label, read_labels, read_metadata, read_number_field, read_process, read_quoted, read_run}
pub use Rattle.dspec_ctf_reading.specs.ReadingMetadata.{read_streams, read_text_field, read_type, read_type_of, read_word, rest_past, run_of, text_front, text_layouts, then_rest, whole_types}
pub use Rattle.dspec_ctf_reading.specs.ReadingMetadata.{with_part}
unfoldable pub use Rattle.dspec_ctf_reading.specs.ReadingMetadata.{is_digit, is_quoted, is_word}
pub use Rattle.dspec_ctf_reading.specs.Told.{as_read, first_place, Fits, names_of, text_at, told_event, told_field, told_label, told_layout, told_packet}
pub use Rattle.dspec_ctf_reading.specs.ToldNumbers.{HasNumbers, ticks_of}
