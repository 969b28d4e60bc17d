-- Serves proofs. The words of this crate for its proofs and for the crates above, in one place. Declares nothing.
pub mod Outside
unfoldable pub use Outside.*
pub use Rattle.dspec_ctf.specs.ByTime.{ArePacketsOfRecords, AreTexts, IsAdded, packet_count, span_of, timed_packet}
unfoldable pub use Rattle.dspec_ctf.specs.ByTime.{packet_at, part_at, timed_packets}
pub use Rattle.dspec_ctf.specs.Filled.{AreFilledOf, filled_size, front_by, LacksBytes, portions, portions_from, span_by, takes_another}
unfoldable pub use Rattle.dspec_ctf.specs.Filled.{filled_around, filled_packet, filled_packets}
pub use Rattle.dspec_ctf.specs.InMemory.Batches.{HaveAllLeft, OpensWithoutMemory, parts_of, PutsPackets, PutsWithoutMemory}
pub use Rattle.dspec_ctf.specs.InMemory.Calls.{as_written, emptied_in, FindsAlone, FindsAndHands, FindsNone, Hands, HandsMissed, HandsNone, has_no_rest, HasAsMuchRoom, HasNoBatch, HasNoRunPacket}
pub use Rattle.dspec_ctf.specs.InMemory.Calls.{HasRoomFor, IsAllHanded, IsFoundRun, OpensBatch, Reserves, run_bytes, SwapRooms, with_more_missed, without_rest}
pub use Rattle.dspec_ctf.specs.InMemory.Filing.{CpuFiling, FilingRoom, no_packets, unwritten}
pub use Rattle.dspec_ctf.specs.InMemory.Naming.{AreEvents, HasNoEvents, kind_number, kinds_in, PutsMetadata, PutsNone, texts_in}
pub use Rattle.dspec_ctf.specs.Laws.{AreFiled, HaveAllBetween}
pub use Rattle.dspec_ctf.specs.Metadata.{clock_text, clock_uuid, environment_text, field_line, given_lines, kind_line, kind_type, label_item, metadata_text, next_in_front, numbered_lines}
pub use Rattle.dspec_ctf.specs.Metadata.{seconds_text, stamp_line, start_text, stream_text, text_line, ticks_text, type_name, typed_line, words_at}
unfoldable pub use Rattle.dspec_ctf.specs.Metadata.{clock_back, clock_start, event_front, event_name, event_number, event_text, field_lines, given_line, hex, hyphened, label_items, labelled_type}
unfoldable pub use Rattle.dspec_ctf.specs.Metadata.{origin_text, process_text, text_type, trace_back, trace_front, types_text, uuid_text}
pub use Rattle.dspec_ctf.specs.Names.{can_mean, earlier, first_found, has_stamp, is_identifier, is_text, is_text_before, labels_at}
unfoldable pub use Rattle.dspec_ctf.specs.Names.{bad_at, bad_label_at, bad_name, begins_well, events_fault, fault_at, fields_fault, first_bad, first_bad_label, form_fault, is_label, is_label_byte}
unfoldable pub use Rattle.dspec_ctf.specs.Names.{is_letter, is_word_byte, label_fault_at, labels_fault, metadata_fault, metadata_fault as fault_of_metadata, names_fault, origin_fault, process_fault}
unfoldable pub use Rattle.dspec_ctf.specs.Names.{text_fault_at, texts_fault, unfit}
pub use Rattle.dspec_ctf.specs.Packets.{event, event_fields, events, front_size, packet, packet as packet_of, packet_around, span_bytes, stamp_bytes, values_bytes}
unfoldable pub use Rattle.dspec_ctf.specs.Packets.{context_bytes, front_bytes, header_bytes}
pub use Rattle.dspec_ctf.specs.Rows.{AreRuns, GoesToFile, HasNoRun, IsFileRun, IsFoundOf, missed_packets, most_bytes, most_records, of_file, run_files, run_packet, run_packets, run_records, Spreads}
pub use Rattle.dspec_ctf.specs.Rows.{told_by}
pub use Rattle.dspec_ctf.specs.Streams.{Accepts, HasNoPacket, HasNoRecordPacket, HasNoRecords, IsText, IsTooLong}
