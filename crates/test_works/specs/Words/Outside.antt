-- Serves proofs. Words from the crates below, in one place. Declares nothing.
pub use Rattle.dspec.specs.Words.{place_of}
