-- Serves proofs. The words of this crate for its proofs and for the crates above, in one place. Declares nothing.
pub mod Outside
unfoldable pub use Outside.*
pub use Rattle.dspec_trace_reading.specs.AsTaken.{AreKept, drops_carried, HaveNumbers, told_on}
pub use Rattle.dspec_trace_reading.specs.Begun.{BegunNew, HasOriginNumbers, IsBegunByTime, IsBegunTrace, TimedBegunNew}
pub use Rattle.dspec_trace_reading.specs.ByTime.{AreKeptInFront, missed_by_time, told_by_time}
pub use Rattle.dspec_trace_reading.specs.Folders.{all_counted, AreCountable, AreNamesOf, IsFileOf, IsInFolder, lost_of, lost_records, missed_in, ReadsPart, TellsProgram}
pub use Rattle.dspec_trace_reading.specs.IntoFolders.{IsByOneList}
pub use Rattle.dspec_trace_reading.specs.Laws.{KeptIsRead, ListedBy, TakenIsRead, TimedIsRead, TimedKeptIsRead, TracedBy}
pub use Rattle.dspec_trace_reading.specs.Ran.{BothGet, IsOfTimedTrace, IsOfTrace, RanBegun, RanInto}
pub use Rattle.dspec_trace_reading.specs.Reads.{KeptOf, Reads, ReadsAllKept, ReadsBack, ReadsKept}
