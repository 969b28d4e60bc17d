-- Serves proofs. Words from the crates below, in one place. Declares nothing.
pub use Rattle.dspec_deeds.specs.Words.{records_of_report}
pub use Rattle.dspec_deeds.specs.declared.report.Report.{Report}
