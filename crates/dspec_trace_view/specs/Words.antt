-- Serves proofs. The words of this crate for its proofs and for the crates above, in one place. Declares nothing.
pub use Rattle.dspec_trace_view.specs.Pages.{escape_of, escapes_of, is_markup}
pub use Rattle.dspec_trace_view.specs.Paths.{IsRecordOf}
