-- Serves proofs. The words of this crate for its proofs and for the crates above, in one place. Declares nothing.
pub mod Outside
unfoldable pub use Outside.*
pub use Rattle.dspec_c.specs.ClosedCalls.{TellsCountsOf}
pub use Rattle.dspec_c.specs.Closing.{fulls, held_in_each, KeepAll, KeepsHeld, names}
pub use Rattle.dspec_c.specs.ConsumerCalls.{OnConsumer, OnTheirs, ToldSo}
pub use Rattle.dspec_c.specs.ConsumerHomes.{AreHomeOf, IsSameTheirs, IsTheirPlaceWith, LeaveTheirs, Theirs, theirs_of, TheirStay}
pub use Rattle.dspec_c.specs.CpuCalls.{OnCpu, one_refused, OnSide, put_record, PutBy, Reports}
pub use Rattle.dspec_c.specs.Handles.{held_in, is_full}
pub use Rattle.dspec_c.specs.Homes.{AtHome, Came, cpu_side_of, CpuSide, CpuStay, HasGone, IsAtHomeOf, IsDesk, IsOut, IsPlaceWith, IsSameAsAll, IsSameSide, IsUnused, LeavesPlace, Stay}
pub use Rattle.dspec_c.specs.Lending.{with_held, with_inside}
pub use Rattle.dspec_c.specs.PathCalls.{AdoptTold, BeginsOnCpu, BeginTold, CountsTold, DiscardTold, KeepPartTold, LoseTold, named, OnTable, OnTableAlone, OpenOfTold, TurnsOnCpu, TurnTold}
pub use Rattle.dspec_c.specs.Seals.{seal_owns}
pub use Rattle.dspec_c.specs.SessionCalls.{consumer_due, ConsumerOfAnswers, cpu_due, CpuOfAnswers, EndsSo, FinishAnswers, GivesConsumer, GivesCpu, HandsOut, HandsOutCpu, HomeAnswers, is_cpu_in}
pub use Rattle.dspec_c.specs.SessionCalls.{KeptSo, LooksHome, StartsSo}
pub use Rattle.dspec_c.specs.Shows.{TellsReport}
pub use Rattle.dspec_c.specs.Statuses.{already_out, busy, no_memory, no_such_cpu, not_home}
pub use Rattle.dspec_c.specs.Tending.{AreTended, IsTended, IsTendedWhole, ServedAtHome, ServedIfThere, ServedThere, ServicedSo, TendAnswers, TendsOne}
pub use Rattle.dspec_c.specs.Whole.{AllCalled, AllInside, AreCame, ClosedBy, cpu_inside, EachFrom, EndedBy, firsts, GoesOut, Going, HasAll, HasRooms, inside_at, insides, IsAway, IsCpuAt, IsEnding}
pub use Rattle.dspec_c.specs.Whole.{IsFreshIn, IsHome, IsInsideAt, IsJustStarted, IsPlaceOf, IsStarted, IsWhole, LeavesOne, LookedLater, LooksAt, LooksAtOne, LooksIfThere, new_side, OneOutside}
pub use Rattle.dspec_c.specs.Whole.{refusals, refused_inside, they_wait_so, TheyGoOut, waiting_so}
pub use Rattle.dspec_c.specs.Widths.{field_and_rest, field_of_width, fields_of_widths}
