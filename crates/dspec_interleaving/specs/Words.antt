-- Serves proofs. The words of this crate for its proofs and for the crates above, in one place. Declares nothing.
pub mod Outside
unfoldable pub use Outside.*
pub use Rattle.dspec_interleaving.specs.Bounds.{clean_bound, consumer_bound, consumer_limit, cpu_limit, flight_bound, most_steps, op_bound, steps_limit}
pub use Rattle.dspec_interleaving.specs.Calls.{begin_consumer_fault, begin_cpu_fault, call_of, consumer_call_of, consumer_op_of, cpu_call_of, is_about, is_actor, is_idle, op_of, record_passes}
pub use Rattle.dspec_interleaving.specs.Calls.{steps_of}
pub use Rattle.dspec_interleaving.specs.Coherent.{Expects, idle_progress, IsCoherent, IsSlot, OnItsWay, PlayState, progress_of, ProgressStands, PushesNext, SettledBelow, SpareCounts, StandsConsumer}
pub use Rattle.dspec_interleaving.specs.Coherent.{StandsCpu, StandsProgress, StandsState, TriedBy}
pub use Rattle.dspec_interleaving.specs.CpuClose.{IsCloseOf, own_closed, own_closed_slot}
pub use Rattle.dspec_interleaving.specs.Play.{batch_at, changes, consumer_begun, consumer_step, ConsumerStep, cpu_step, gives_at, is_worn, keeps_on, loads_ack, loads_slot, measured, next_slot}
pub use Rattle.dspec_interleaving.specs.Play.{reaps, stops, takes_at, took}
pub use Rattle.dspec_interleaving.specs.Plays.{all_ran, all_turned, answers_of, begin_refusal, begun_consumer, begun_cpu, consumer_stepped, cpu_stepped, cpus_ran, deeds_of, ended, EndedCall, is_by}
pub use Rattle.dspec_interleaving.specs.Plays.{is_worn_answer, IsPlayingAt, IsReadOff, Noted, or_else, play_fault, played, Playing, playing_at_start, ran, read_off, refusal, setup_fault}
pub use Rattle.dspec_interleaving.specs.Plays.{step_refusal, stepped, to_end, turn_fault, turned, with_entered, with_note, worn_answers, worn_count}
pub use Rattle.dspec_interleaving.specs.Promised.{HasHeadline}
pub use Rattle.dspec_interleaving.specs.ReadOff.{answer_of_consumer, answer_of_cpu, has_seal, is_busy_among, release_count, settle_count}
pub use Rattle.dspec_interleaving.specs.SoloRule.{DecidesNothing, IsLast, IsReleasing, ReleasesLast, ReleasesThen}
pub use Rattle.dspec_interleaving.specs.Step.{asked, begun, call_goes_on, call_step, committed_by, CpuStep, discarded_by, ends, is_alone, is_release, loads_service, Measured, missed, popped}
pub use Rattle.dspec_interleaving.specs.Step.{same_word, sealed_by, served, shown_commit, shown_discard, shown_scan, shown_service, shown_speculate, spoken_at, wears}
pub use Rattle.dspec_interleaving.specs.Turns.{at_start, begin_consumer, begin_cpu, cleaned_to, idle_cpus, moved_to, on_to_end, step, step_consumer, step_cpu, Stepped}
pub use Rattle.dspec_interleaving.specs.Wearing.{AreWornRightly, entered_calls, enters_call, is_counted, is_first, is_told_worn, is_worn_after}
pub use Rattle.dspec_interleaving.specs.Whole.{after_all, after_consumer, after_cpu, all_settled, are_all_back, AreCalls, Call, cleaned_at, cleaned_up, consumer_call, cpu_call, enters, gives}
pub use Rattle.dspec_interleaving.specs.Whole.{HasService, is_any_busy, is_out, is_reapable, is_sealing, IsApart, IsCall, IsReleased, least_free, missed_up, of_consumer, of_cpu, once_called}
pub use Rattle.dspec_interleaving.specs.Whole.{or_slot, owes, releases_up, settled_at, settled_up, settlements_up_to, settles_as, wears_out, whole_answer, whole_cpu, whole_service, WholeConsumer}
pub use Rattle.dspec_interleaving.specs.Whole.{WholeCpu}
pub use Rattle.dspec_interleaving.specs.WholePlays.{actor_of, all_ended, AreAccepted, HasAcceptedRecord, operation_of, turn_of}
