-- Serves proofs. The words of this crate for its proofs and for the crates above, in one place. Declares nothing.
pub mod Outside
unfoldable pub use Outside.*
pub use Rattle.dspec_cpu_state.specs.Counting.{counts_of, HasRoom, is_stopped_opening, IsRoomy, one_more_worn, report_of, with_decided, with_fate, with_opening, with_spoken}
pub use Rattle.dspec_cpu_state.specs.CpuStates.{IsCaller, IsFilledWith, parts_of_side, ShowsList}
