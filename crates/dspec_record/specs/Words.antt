-- Serves proofs. The words of this crate for its proofs and for the crates above, in one place. Declares nothing.
pub use Rattle.dspec_record.specs.EnablingFields.{IsLaidOut, padded_limits, padded_places}
pub use Rattle.dspec_record.specs.EnablingRows.{EnabledRows, IsFilled}
pub use Rattle.dspec_record.specs.FirstWords.{with_low}
pub use Rattle.dspec_record.specs.LaidOut.{IsLaidBy, IsSaid, Laid}
pub use Rattle.dspec_record.specs.Laws.Layouts.{fields_end-ge, fields_end-le, fields_start-ge, header-within, layout-IsShape, rounded_up-ge, size-moved, size-stamped}
pub use Rattle.dspec_record.specs.Laws.Padding.{padded_list}
pub use Rattle.dspec_record.specs.Laws.Tables.{accepted-parts, enabled-IsLimited, IsAccepted, table-shapes_fit, table-texts_differ, table-texts_fit}
pub use Rattle.dspec_record.specs.Laws.Texts.{append-same, both, length-header_text, length-little_endian, length-record_text, little_endian-same}
pub use Rattle.dspec_record.specs.Layout.{after, field_places, fields_end, fields_start, is_eight, layout, limit, rounded_up, width}
pub use Rattle.dspec_record.specs.PackedFields.{packed_fields, packed_of, packed_words}
pub use Rattle.dspec_record.specs.Packing.{AreFree, ArePacked, BeginsWithWords, bytes_of_words, claim_of, claimed, claimed_by, claims_from, cuts, IsClean, mask_number, masked_words, number_of_words}
pub use Rattle.dspec_record.specs.Packing.{packed_record, padded_claims, signature_of, value_number, words_in, words_of_number}
unfoldable pub use Rattle.dspec_record.specs.Packing.{masks_for}
pub use Rattle.dspec_record.specs.Reading.{Answers, BeginsWith, front_epid, HasNoText, IsShape, IsTextOf, NamesShape}
pub use Rattle.dspec_record.specs.Record.{Record}
pub use Rattle.dspec_record.specs.RecordText.{fields_text, fits, gap, header_text, IsRead, little_endian, record_text, stamp_fits, stamp_text}
pub use Rattle.dspec_record.specs.Schemas.{default_fields, enabled, enabling_of, FieldTable, table_accepts, table_shape, table_text, within_limit}
pub use Rattle.dspec_record.specs.Writing.{IsClearAfter}
