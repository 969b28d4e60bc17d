-- Serves proofs. The words of this crate for its proofs and for the crates above, in one place. Declares nothing.
pub mod Outside
unfoldable pub use Outside.*
pub use Rattle.dspec_paths.specs.Counts.{counted_begin, counted_commit, counted_discard, counted_end, counted_in, counted_loss, counted_times, CountsAddUp, has_part_at, IsSum, KeptCounted, KeptOne}
pub use Rattle.dspec_paths.specs.Counts.{no_counts, open_in, ThrownCounted, with_one_begun, with_one_kept, with_one_lost, with_one_thrown_away}
pub use Rattle.dspec_paths.specs.Every.{DiscardsIfMeant, EachOf, KeepsIfMeant, key_at, meant_path}
pub use Rattle.dspec_paths.specs.Open.{places_of}
pub use Rattle.dspec_paths.specs.PathPage.{Became, copies, DecidesItself, FateOf, GoesOnTo, GoesTo, going, HasFates, IsDecided, IsHere, IsNobodys, IsOver, keeping, KeepsPaths, kept, lost, no_paths}
pub use Rattle.dspec_paths.specs.PathPage.{nobodys, NotCopied, NotThrown, open_state, PathBook, PathState, Spares, thrown_away, throws}
pub use Rattle.dspec_paths.specs.Rooms.{LacksRoom}
pub use Rattle.dspec_paths.specs.Table.{AdoptsPath, at_place, BeginsBy, BeginsPath, begun_with, Commits, CommitsNewest, CommitsOlder, CommitsPart, CommitsSo, copied_by, DiscardsIfThere}
pub use Rattle.dspec_paths.specs.Table.{DiscardsPath, DiscardsSo, GoesOnOrLost, IsAlone, IsNamed, IsUnchanged, IsUndecided, KeepsPart, KeepsPath, KeepsRest, loses_block, LosesPath, path_at, Places}
pub use Rattle.dspec_paths.specs.Table.{ThrowsAway, turned_to, TurnsBy, TurnsPath, with_path, without_path}
