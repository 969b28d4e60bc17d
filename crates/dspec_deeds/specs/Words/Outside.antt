-- Serves proofs. Words from the crates below, in one place. Declares nothing.
pub use Rattle.dspec_record.specs.Words.{Record}
pub use Rattle.dspec_record.specs.declared.field.Shape.{Shape}
pub use Rattle.dspec_buffer.specs.Words.{block, extent, one, Piece, piece_fits, StepsAhead}
pub use Rattle.dspec_word.specs.Words.{awaits, code_number, commit_at, discard_at, is_decided, is_inactive, no_speculation, open_at, released, settle_at, SlotState, speculate_at, Speculation}
pub use Rattle.dspec_word.specs.Words.{word_number}
pub use Rattle.dspec_word.specs.declared.act.Act.{Act}
pub use Rattle.dspec_word.specs.declared.act.Act.TheVariants.{Attempt, Granted, Void}
pub use Rattle.dspec_word.specs.declared.code.Code.{Code}
pub use Rattle.dspec_word.specs.declared.code.Code.TheVariants.{Active, ActiveMany, ActiveOne, Committing, CommittingMany, Discarding, Inactive}
