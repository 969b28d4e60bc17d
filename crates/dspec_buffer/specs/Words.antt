-- Serves proofs. The words of this crate for its proofs and for the crates above, in one place. Declares nothing.
pub mod Outside
unfoldable pub use Outside.*
pub use Rattle.dspec_buffer.specs.BufferText.{BufferText, IsGap, StandsNext}
pub use Rattle.dspec_buffer.specs.ByteFields.{IsInside, stored_of}
pub use Rattle.dspec_buffer.specs.Extent.{align_of, block, bytes, bytes_of_records, extent, extent_of_records, one, padded, padding, padding_word, Piece, piece_align, piece_bytes, piece_fits}
pub use Rattle.dspec_buffer.specs.Extent.{piece_size, records, records_of, reserved, size_of}
pub use Rattle.dspec_buffer.specs.Faults.{FaultHere, StopsAfter, StopsAt}
pub use Rattle.dspec_buffer.specs.Laws.Remaining.{IsOneText-prop, records_set, Remaining-prop}
pub use Rattle.dspec_buffer.specs.Listed.{HasListed, HasTexts, ListView}
pub use Rattle.dspec_buffer.specs.Progress.{Advances, Progress}
pub use Rattle.dspec_buffer.specs.ReadingOn.{EndsAt, FaultIs, HasRead, NextIs, NoGapAt, ReadsNext, SkipsGap, StandsHere}
pub use Rattle.dspec_buffer.specs.Remaining.{IsOneText, Remaining, StepsOn}
pub use Rattle.dspec_buffer.specs.Stored.{HasAhead, HasPieces, Stored}
pub use Rattle.dspec_buffer.specs.Upgrading.{all_stamped, FillsUp, HasNew, IsOldText, IsUpgradable, IsUpgraded, new_extent, stamped}
pub use Rattle.dspec_buffer.specs.Walking.{IsAhead, StepsAhead}
