-- Serves proofs. The words of this crate for its proofs and for the crates above, in one place. Declares nothing.
pub mod Outside
unfoldable pub use Outside.*
pub use Rattle.specview.specs.Batches.{last_share, share_of, ShareOf, shares, shown_share, TellsCounts}
pub use Rattle.specview.specs.Faults.{view_of_schedule}
pub use Rattle.specview.specs.Folders.{AddsFiles, cpu_files, NamedFile, written_files}
pub use Rattle.specview.specs.Pictures.{IsPictureFault, IsPlayPictureFault}
pub use Rattle.specview.specs.Stepping.{IsStepsFault}
pub use Rattle.specview.specs.Traces.{AreFiles, AreStreams, event_rows, greatest_epid, greatest_of, HasUnknown, HaveShortEvents, IsFileFault, IsOfNumbered, IsPlayTraceFault, missed_by}
pub use Rattle.specview.specs.Traces.{packets_following, refused_in, TellsSmall, written_shares}
