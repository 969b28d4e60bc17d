-- Serves proofs. Words from the crates below, in one place. Declares nothing.
pub use Rattle.dspec_record.specs.Words.{Record}
pub use Rattle.dspec_record.specs.declared.field.Shape.{Shape}
pub use Rattle.dspec_buffer.specs.Words.{align_of, block, extent, extent_of_records, one, Piece, piece_fits, records, reserved, size_of}
pub use Rattle.dspec_word.specs.Words.{Speculation}
pub use Rattle.dspec_deeds.specs.Words.{accepts_now, ack, active, busy_fails, calls, contents, count_of, CpuLegal, decided_stopped, discards_now, dropped_in, fits_principal, fits_speculative, full}
pub use Rattle.dspec_deeds.specs.Words.{growing, held, is_closed, is_commit, is_copied, is_discard, is_drop, is_empty, is_lost, last_called, loses_now, mark, missed_busy, Offer, offers, one_if}
pub use Rattle.dspec_deeds.specs.Words.{other_fails, own_side, same_id, seals, ShowsOwnState, specdrops_now, spoken_dropped, spoken_granted, spoken_kept, spoken_nowhere, spoken_stopped, StateParts}
pub use Rattle.dspec_deeds.specs.Words.{stops_now, total, trace_dropped, trace_kept, trace_stopped, traces_dropped_now, voids_now}
pub use Rattle.dspec_deeds.specs.declared.calls.Opening.{Opening}
pub use Rattle.dspec_deeds.specs.declared.config.Config.{Config}
pub use Rattle.dspec_deeds.specs.declared.deed.DecideFate.{DecideFate}
pub use Rattle.dspec_deeds.specs.declared.deed.Deed.{Deed}
pub use Rattle.dspec_deeds.specs.declared.deed.Deed.TheVariants.{Commit, Discard, Release, Seal, Settle, Speculate, Trace}
pub use Rattle.dspec_deeds.specs.declared.deed.SpeculateFate.{SpeculateFate}
pub use Rattle.dspec_deeds.specs.declared.deed.TraceFate.{TraceFate}
pub use Rattle.dspec_deeds.specs.declared.report.Report.{Report}
