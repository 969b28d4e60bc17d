-- Serves proofs. The words of this crate for its proofs and for the crates above, in one place. Declares nothing.
pub mod Outside
unfoldable pub use Outside.*
pub use Rattle.dspec_session.specs.Crews.{AllCanWork, AllWorked}
pub use Rattle.dspec_session.specs.Demonstrated.{Called, CameBack, CanWork, CpuRounds, decision_of, demonstrated, IsBack, Offers, Worked, WorkerAdds, WorkerServed}
pub use Rattle.dspec_session.specs.Races.{all_finished, AllBalanced, AllTold, AreFresh, HaveMade, HaveOffered, HaveRoom, IsDemonstrated}
pub use Rattle.dspec_session.specs.Results.{AllFollow, IsDone, LineFollows, order_at}
pub use Rattle.dspec_session.specs.Rising.{FollowsText, with_records}
pub use Rattle.dspec_session.specs.Visits.{ConsumerRounds, IsBackOrRefused, no_round, none_taken, one_round}
