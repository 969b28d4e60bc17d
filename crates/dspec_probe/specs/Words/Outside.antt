-- Serves proofs. Words from the crates below, in one place. Declares nothing.
pub use Rattle.dspec_record.specs.Words.{after, AreFree, ArePacked, both, enabled, EnabledRows, enabling_of, fields_end, fields_end-ge, fields_end-le, fields_start, fits, IsClean, IsLaidBy, Laid}
pub use Rattle.dspec_record.specs.Words.{layout, length-record_text, number_of_words, packed_record, padded_list, Record, record_text, rounded_up, table_shape, table_text, value_number, width}
pub use Rattle.dspec_record.specs.declared.field.Field.{Field}
pub use Rattle.dspec_record.specs.declared.field.Field.TheVariants.{Eight, Four, One, Two}
pub use Rattle.dspec_record.specs.declared.header.Header.{Header}
