-- Serves proofs. The words of this crate for its proofs and for the crates above, in one place. Declares nothing.
pub mod Outside
unfoldable pub use Outside.*
pub use Rattle.dspec_cpu.specs.Between.{cpu_block_fits}
pub use Rattle.dspec_cpu.specs.BlockAt.{IsBlockAt}
pub use Rattle.dspec_cpu.specs.Called.{called, CallsMade, no_calls, settled_did, with_decision, with_speculate, with_speculation, with_trace, WithService}
pub use Rattle.dspec_cpu.specs.Calls.{decided_deeds, Decides, decision, Goes, is_decision, is_worn_decided, rests, spoken_deeds, steps, traced_deeds}
pub use Rattle.dspec_cpu.specs.Dropped.{drops_told}
pub use Rattle.dspec_cpu.specs.Keeping.{CallLeaves}
pub use Rattle.dspec_cpu.specs.KeptRests.{rest_with}
pub use Rattle.dspec_cpu.specs.Lists.{AreShown, batches_of, calls_of, config_of, end_of, HasList, held_back_of, IsReady, IsSameCpu, IsShown, IsSteady, number_in, schema_of, seat_of, side_of}
pub use Rattle.dspec_cpu.specs.Lists.{spare_count, spare_of, words_of, worn_of}
pub use Rattle.dspec_cpu.specs.OneCall.{CommitsIfRoom, DecidesOne, is_lost_block, made_all_calls, OffersValues, OpensOne, RecordsValues, ServesOnce, SpeculatesOne, takes_values, TracesOne}
pub use Rattle.dspec_cpu.specs.OneCall.{with_values}
pub use Rattle.dspec_cpu.specs.OpenAt.{IsOpenAt}
pub use Rattle.dspec_cpu.specs.Reached.{Reached, Stands}
pub use Rattle.dspec_cpu.specs.Reaching.{act_by, act_of, act_reached, EndsAtWord, is_attempt, is_committing, is_reached, IsPresentAt, OwnsCommit, reached_deeds, releases_next, Shown, speculating}
pub use Rattle.dspec_cpu.specs.Reaching.{TakesTurn, turns}
pub use Rattle.dspec_cpu.specs.Rests.{AreItsWords, batches_of_rest, CanCloseAfter, config_of_rest, held_back_of_rest, IsLegalPart, IsSameRest, number_of_rest, RestHasList, schema_of_rest}
pub use Rattle.dspec_cpu.specs.Rests.{worn_of_rest}
pub use Rattle.dspec_cpu.specs.Scans.{any_busy, is_worn_opening, IsGivenAt, IsOpening, look_deed, LookedAtSlot, misses, opening_deeds, Opens, Scanned}
pub use Rattle.dspec_cpu.specs.Sealed.{AreSealed, HasSized, IsSealed, waiting}
pub use Rattle.dspec_cpu.specs.Serving.{Serves}
pub use Rattle.dspec_cpu.specs.Settled.{BlockSettled, CanSettle, DueSettled, IsDueAt, IsPartOf, KeepsBatches, serving, Settled, SettledAfter, SettledSlot, SettledSlots, shown_at, SlotDone}
pub use Rattle.dspec_cpu.specs.Standing.{Belongs, CpuIdentity, identity, IsCallable}
pub use Rattle.dspec_cpu.specs.Stops.{is_stopped_decided, is_stopped_reach, StopsWhereMet}
pub use Rattle.dspec_cpu.specs.Switching.{batch_of, Buffers, buffers_of, emptied, FindsSpare, HandsOn, Heeds, held_up, IsSameBeside, looked, most_moves, never, no_spare, not_asked, switched}
pub use Rattle.dspec_cpu.specs.Switching.{Switches, with_buffers, with_seal, worn_out}
pub use Rattle.dspec_cpu.specs.Touching.{at_slot, last_looked, of_activity, of_service, of_slot, of_slots, Touches}
