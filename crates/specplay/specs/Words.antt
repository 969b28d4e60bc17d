-- Serves proofs. The words of this crate for its proofs and for the crates above, in one place. Declares nothing.
pub mod Outside
unfoldable pub use Outside.*
pub use Rattle.specplay.specs.Lines.{lines_text}
pub use Rattle.specplay.specs.Schedules.{IsCutOff, IsToldOf, Prints}
pub use Rattle.specplay.specs.Written.{AppendsBefore, AppendsBeginning}
