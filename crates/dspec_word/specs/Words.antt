-- Serves proofs. The words of this crate for its proofs and for the crates above, in one place. Declares nothing.
pub use Rattle.dspec_word.specs.Code.{awaits, code_number, code_of, is_decided, is_inactive}
pub use Rattle.dspec_word.specs.SpecId.{id_number, no_speculation, Speculation}
pub use Rattle.dspec_word.specs.Tables.{attempt, commit_act, commit_at, discard_act, discard_at, open_at, reap_at, settle_at, speculate_act, speculate_at}
pub use Rattle.dspec_word.specs.Word.{CanBeReleased, released, SlotState, word_number}
