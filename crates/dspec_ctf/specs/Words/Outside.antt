-- Serves proofs. Words from the crates below, in one place. Declares nothing.
pub use Rattle.dspec_record.specs.Words.{accepted-parts, after, append-same, both, enabled, EnabledRows, enabling_of, fields_start, fields_text, fits, gap, IsAccepted, length-little_endian}
pub use Rattle.dspec_record.specs.Words.{little_endian, little_endian-same, Record, stamp_fits, stamp_text, table_accepts, table_shape, table_text, width, within_limit}
pub use Rattle.dspec_record.specs.declared.field.Field.{Field}
pub use Rattle.dspec_record.specs.declared.field.Field.TheVariants.{Eight, Four, One, Two}
pub use Rattle.dspec_record.specs.declared.field.Shape.{Shape}
pub use Rattle.dspec_record.specs.declared.header.Header.{Header}
pub use Rattle.dspec_buffer.specs.Words.{BufferText, StopsAt}
pub use Rattle.dspec_probe.specs.Words.{is_next, name_place, next_words}
pub use Rattle.dspec_probe.specs.declared.kind.Kind.{Kind}
pub use Rattle.dspec_probe.specs.declared.kind.Kind.TheVariants.{Float, Signed, Text, TextNext, Unsigned}
pub use Rattle.dspec_probe.specs.declared.probes.ProbeNames.{ProbeNames}
