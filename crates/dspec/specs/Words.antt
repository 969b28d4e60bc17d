-- Serves proofs. The words of this crate for its proofs and for the crates above, in one place. Declares nothing.
pub mod Outside
unfoldable pub use Outside.*
pub use Rattle.dspec.specs.ClosedCpus.{left_shown, lefts_from}
pub use Rattle.dspec.specs.LaneCalls.{DecisionOn, OpeningOn, ServiceOn, SpeculateOn}
pub use Rattle.dspec.specs.Lanes.{place_of}
pub use Rattle.dspec.specs.LastPaths.{DecidesIfThere, FollowsOn, LastEndOn, LastRecordOn, LastValuesOn, OffersNextOn, SettlesOn}
pub use Rattle.dspec.specs.Lent.{AllCallable, AllReturned, Returned}
pub use Rattle.dspec.specs.Passed.{AreFrom, each_from, GetsIfThere, GotAll, GotThere, HasLists, left_batches, Passed, passed_from, PassesOn, rests_passed}
pub use Rattle.dspec.specs.Serving.{ServedOn, ServedOnce, ServedTimes, ThenServed}
pub use Rattle.dspec.specs.SinkRecords.{KeepsBatch, no_records, record_of_cpu, SinkRecords}
pub use Rattle.dspec.specs.TextSinks.{told_line, ToldInTurn}
pub use Rattle.dspec.specs.Traced.{IsKept, IsOneList, IsOneListWith, IsTraced}
pub use Rattle.dspec.specs.Visits.{MakesRound, MakesRounds, no_rounds, none_visited, one_more, rounds_more, VisitsFirst}
pub use Rattle.dspec.specs.Workers.{AllNumbered, AllWorked, cpus_of, one_for, with_cpus, WorkedBy, WorkedOn, WorkedOne, workers_of}
