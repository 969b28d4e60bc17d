-- Serves proofs. The words of this crate for its proofs and for the crates above, in one place. Declares nothing.
pub mod Outside
unfoldable pub use Outside.*
pub use Rattle.dspec_filing_reading.specs.Laws.{WrittenIsRead}
pub use Rattle.dspec_filing_reading.specs.Reading.{AreFrontsKept, ReadsPackets, ReadsWritten}
pub use Rattle.dspec_filing_reading.specs.Sessions.{all_told_missed, all_written, CallMakes, CallsMake, FilingCall, opened_text, opened_texts, Packets, packets_after, packets_after_all, packets_of}
pub use Rattle.dspec_filing_reading.specs.Sessions.{told_missed}
pub use Rattle.dspec_filing_reading.specs.Sessions.FilingCall.{Lost, Missed, NoMore, Opened, OpenRefused, Put, PutRefused, Reserved, RoomSwapped}
