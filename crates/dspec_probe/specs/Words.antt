-- Serves proofs. The words of this crate for its proofs and for the crates above, in one place. Declares nothing.
pub mod Outside
unfoldable pub use Outside.*
pub use Rattle.dspec_probe.specs.Declarations.{Declared}
pub use Rattle.dspec_probe.specs.FieldLists.{IsFieldList}
pub use Rattle.dspec_probe.specs.Kinds.{is_next, name_place, next_words}
pub use Rattle.dspec_probe.specs.Parts.{both_of}
pub use Rattle.dspec_probe.specs.Probes.{epid_of_probe, IsProbeOf, probed_record, stamp_in}
pub use Rattle.dspec_probe.specs.Telling.{named_text, told_fields, told_meaning, told_name, told_record, told_text}
pub use Rattle.dspec_probe.specs.Texts.{before_zero, filled_words}
unfoldable pub use Rattle.dspec_probe.specs.Texts.{text_word}
pub use Rattle.dspec_probe.specs.Values.{float, signed}
