-- Serves proofs. The words of this crate for its proofs and for the crates above, in one place. Declares nothing.
pub mod Outside
unfoldable pub use Outside.*
pub use Rattle.dspec_ctf_sink.specs.Accounts.{Accounts, missed_on, TimedAccounts}
pub use Rattle.dspec_ctf_sink.specs.Ending.{GetsTelling, GetsTellings, IsBare, IsTelling, TellsUntold, untold}
pub use Rattle.dspec_ctf_sink.specs.FileLogs.{log_then}
pub use Rattle.dspec_ctf_sink.specs.Held.{FilesHave, HasWritten, HaveBesides, Held, IsCut, IsFileAt, IsLong, IsNotAmong, KeepsInFront, LeavesFile}
pub use Rattle.dspec_ctf_sink.specs.Losses.{capped, HasSoManyRecords, lost_more, missed_more}
pub use Rattle.dspec_ctf_sink.specs.Places.{written_in}
pub use Rattle.dspec_ctf_sink.specs.Timed.{AddsAll, AddsBatch, AddsRun, AddsRuns, ChangesFiles, CpuFiles, GetsRuns, HasFiles, HasNoCpu, HasNoRuns, IsBatchLoss, IsTimedBegun, LosesAll, LosesBatch}
pub use Rattle.dspec_ctf_sink.specs.Timed.{LosesOfFiles, LosesRest, LosesRuns, RefusesRun, row_name, StopsRun, StopsRuns, TakesAll, TellsMissed, TellsNone, TimedTracing}
pub use Rattle.dspec_ctf_sink.specs.Writes.{brought_to, file_of, FileWrite, IsNotTaken, LeaveNone, made_at, path_of, Refuses, Takes}
pub use Rattle.dspec_ctf_sink.specs.Writing.{AddsPacket, AreNextOf, CountsLost, cpu_name, GetsPacket, IsBatchFault, IsBegun, IsNextPacket, IsNothing, LosesPacket, Tracing, whole_loss}
