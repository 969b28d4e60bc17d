-- Serves proofs. Words from the crates below, in one place. Declares nothing.
pub use Rattle.dspec_record.specs.declared.field.Shape.{Shape}
pub use Rattle.dspec_record.specs.declared.schema.Schema.{Ghosts}
pub use Rattle.dspec_word.specs.Words.{Speculation}
pub use Rattle.dspec_deeds.specs.Words.{author, callers, calls_on, committed, count_of, empties, HasAuthors, held, is_among, is_commit, is_discard, IsLegal, joined, latest, Offer, Ruling, ruling}
pub use Rattle.dspec_deeds.specs.Words.{same_id, SettlesAs, solo_of, spoken_granted, spoken_kept, undecided, verdict}
pub use Rattle.dspec_deeds.specs.declared.calls.Decided.{Decided}
pub use Rattle.dspec_deeds.specs.declared.calls.Decided.TheVariants.{Copied, Lost, Thrown, Void}
pub use Rattle.dspec_deeds.specs.declared.calls.Opening.{Opening}
pub use Rattle.dspec_deeds.specs.declared.calls.Opening.TheVariants.{Busy, Id, Stopped, Unavailable, Worn}
pub use Rattle.dspec_deeds.specs.declared.config.Config.{Config}
pub use Rattle.dspec_deeds.specs.declared.deed.DecideFate.{DecideFate}
pub use Rattle.dspec_deeds.specs.declared.deed.Deed.{Deed}
pub use Rattle.dspec_deeds.specs.declared.deed.Deed.TheVariants.{Commit, Discard, Halt, Miss, Opened, Release, Scan, Seal, Settle, Speculate, Trace}
pub use Rattle.dspec_deeds.specs.declared.deed.SpeculateFate.{SpeculateFate}
pub use Rattle.dspec_promise.specs.Words.{By, commit, Did, did, discard, discarded, done_by, emptied, emptied_fate, handed, HandedRecord, held_for, is_same_id, once_emptied, service, some}
pub use Rattle.dspec_promise.specs.Words.{speculated, speculated_fate, taken, TellNumbers, traced, waits_for}
pub use Rattle.dspec_cpu.specs.Words.{CallsMade, cpu_block_fits, CpuIdentity, identity, made_all_calls, schema_of, with_decision, with_speculation}
pub use Rattle.dspec_cpu.specs.declared.parts.CpuParts.{CpuParts as Cpu}
pub use Rattle.dspec_cpu.specs.declared.shared.Shared.{Shared}
