-- Serves proofs. Words from the crates below, in one place. Declares nothing.
pub use Rattle.dspec_record.specs.Words.{after, Answers, BeginsWith, enabled, enabled-IsLimited, EnabledRows, FieldTable, front_epid, HasNoText, IsLaidBy, IsShape, IsTextOf, Laid, NamesShape}
pub use Rattle.dspec_record.specs.Words.{Record, rounded_up, table-shapes_fit, table-texts_differ, table-texts_fit, table_accepts, table_shape, table_text}
pub use Rattle.dspec_record.specs.declared.field.Field.{Field}
pub use Rattle.dspec_record.specs.declared.field.Shape.{Shape}
pub use Rattle.dspec_record.specs.declared.header.Header.{Header}
pub use Rattle.dspec_record.specs.declared.header.Header.TheVariants.{Two}
pub use Rattle.dspec_record.specs.declared.reading.ReadKind.{ReadKind}
pub use Rattle.dspec_record.specs.declared.reading.ReadKind.TheVariants.{GapNotZero, Misaligned, Padding, Truncated, UnknownEpid}
pub use Rattle.dspec_record.specs.declared.schema.Schema.{Ghosts}
