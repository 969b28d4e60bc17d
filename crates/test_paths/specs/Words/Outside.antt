-- Serves proofs. Words from the crates below, in one place. Declares nothing.
pub use Rattle.dspec_table.specs.Words.{fresh_seat}
pub use Rattle.dspec_table.specs.declared.rule.View.{View}
