-- Serves proofs. The words of this crate for its proofs and for the crates above, in one place. Declares nothing.
pub mod Outside
unfoldable pub use Outside.*
pub use Rattle.dspec_deeds.specs.Closes.{CanClose, closed_cpus, closed_slot, closed_slots, closing, is_granted, numbers_below, reports, streams, WaitsUndecided}
pub use Rattle.dspec_deeds.specs.CommonDeeds.{AreSameInCommon, common_decided, common_deed, common_deeds, common_spoken, IsSameInCommon}
pub use Rattle.dspec_deeds.specs.CpuShown.{last_called, own_side, OwnState, ShowsOwnState, StateParts, TellsPresent}
pub use Rattle.dspec_deeds.specs.FateAnswers.{answer_of, id_given}
pub use Rattle.dspec_deeds.specs.FateKinds.{count_of, decided_stopped, is_commit, is_copied, is_discard, is_lost, spoken_dropped, spoken_granted, spoken_kept, spoken_nowhere, spoken_stopped}
pub use Rattle.dspec_deeds.specs.FateKinds.{trace_dropped, trace_kept, trace_stopped}
pub use Rattle.dspec_deeds.specs.Fates.{commits, content_of, destination, discards, dropped, emptied_as, Fate, fate, fate_by, fates, fates_below, first_fate, has_commit, has_discard, has_fate}
pub use Rattle.dspec_deeds.specs.Fates.{is_discarded, is_dropped, is_taken, is_void, is_waiting, next_fate, offered_to, taken, times, void, waiting}
pub use Rattle.dspec_deeds.specs.Headline.{AcceptanceLaw, FateLaw, Headline, PrefixLaw}
pub use Rattle.dspec_deeds.specs.History.{ack, acks, active_code, author, callers, calls_on, code_at, committed, discarded, discarded as ruled_out, halted, in_range, is_among, is_busy, is_free}
pub use Rattle.dspec_deeds.specs.History.{is_halt, is_open, is_scan, is_sole, is_sole_or_none, is_undecided, issue, issue_of, joined, late, latest, opened, opened_since, opens, opens_slot, owed}
pub use Rattle.dspec_deeds.specs.History.{owing, part, present, releaser, releases, Ruling, ruling, same_actor, same_id, scan, scanned, settled, settles, solo, solo_of, standing, undecided, verdict}
pub use Rattle.dspec_deeds.specs.History.{word_at}
pub use Rattle.dspec_deeds.specs.Legal.{CopiesOrLoses, CpuLegal, Facts, facts, fits_principal, fits_speculative, Follows, FollowsBy, HasAuthors, is_closed, is_empty, is_seal, IsAllowed, IsFitting}
pub use Rattle.dspec_deeds.specs.Legal.{IsLegal, IsSound, MayComeBy, Pays, sealed_last, SettlesAs, StopsOrActs}
pub use Rattle.dspec_deeds.specs.Marks.{mark, mark_after}
pub use Rattle.dspec_deeds.specs.Own.{accepted, accepts, active, batch_records, batches, calls, contents, dropped_after, dropped_in, empties, empty_batch, full, growing, held, held as buffer}
pub use Rattle.dspec_deeds.specs.Own.{is_call, is_drop, keeps, Offer, Offer as Entry, offered_by, offers, offers as offers_of, one_if_record, Sealing, seals, seals_now, stream, stream as stream_of}
pub use Rattle.dspec_deeds.specs.Own.{taken as accepted_first, taken as taken_first}
pub use Rattle.dspec_deeds.specs.Owning.{CpuRow, is_of, IsOwn, ReadsAlike, ReadsApart}
pub use Rattle.dspec_deeds.specs.Ranges.{is_between, is_fill, is_size, start_fault}
pub use Rattle.dspec_deeds.specs.Reports.{accepts_now, adds_now, busy_fails, CountsWithin, discards_now, fails_now, loses_now, missed_busy, one_if, other_fails, records_of_report, report}
pub use Rattle.dspec_deeds.specs.Reports.{specdrops_now, speculative, Spoken, stops_now, total, traces_dropped_now, voids_now}
pub use Rattle.dspec_deeds.specs.Rules.{drops_of, goes_on, IsGivenBelow, late_calls, settlements, SettlesOnce}
pub use Rattle.dspec_deeds.specs.Settling.{commit_fate, committed_fate, discard_fate, fits_held, settle_fate, settled_fate}
pub use Rattle.dspec_deeds.specs.Weaving.{ArePlaced, bare, front, HaveLists, IsLastOf, IsPlaced, IsWoven, lead, MayStand, remainder, seals_after, ShowsAlike, taken_off, woven}
pub use Rattle.dspec_deeds.specs.WordSteps.{ack_after, touches, word_after, word_made}
