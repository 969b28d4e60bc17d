-- Serves proofs. Words from the crates below, in one place. Declares nothing.
pub use Rattle.dspec_record.specs.Words.{Record}
pub use Rattle.dspec_record.specs.declared.field.Shape.{Shape}
pub use Rattle.dspec_buffer.specs.Words.{block, one}
pub use Rattle.dspec_word.specs.Words.{Speculation}
pub use Rattle.dspec_deeds.specs.Words.{accepted, author, bare, buffer, committed, contents, empties, Entry, FateLaw, fits_principal, fits_speculative, halted, HasAuthors, held, is_commit}
pub use Rattle.dspec_deeds.specs.Words.{is_discard, is_open, is_seal, is_undecided, IsAllowed, IsLegal, IsSound, offered_by, offers_of, opened, opens, part, report, ruled_out, Ruling, same_actor}
pub use Rattle.dspec_deeds.specs.Words.{SettlesAs, specdrops_now, stream_of, taken_first, total, traces_dropped_now, undecided, verdict, WaitsUndecided}
pub use Rattle.dspec_deeds.specs.declared.calls.Actor.TheVariants.{Cpu}
pub use Rattle.dspec_deeds.specs.declared.config.Config.{Config}
pub use Rattle.dspec_deeds.specs.declared.deed.DecideFate.{DecideFate}
pub use Rattle.dspec_deeds.specs.declared.deed.Deed.{Deed}
pub use Rattle.dspec_deeds.specs.declared.deed.Deed.TheVariants.{Commit, Discard, Opened, Scan, Seal, Settle, Speculate, Trace}
pub use Rattle.dspec_deeds.specs.declared.deed.SpeculateFate.{SpeculateFate}
pub use Rattle.dspec_deeds.specs.declared.deed.TraceFate.{TraceFate}
pub use Rattle.dspec_deeds.specs.declared.report.Report.{Report}
