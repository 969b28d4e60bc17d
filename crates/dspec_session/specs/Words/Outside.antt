-- Serves proofs. Words from the crates below, in one place. Declares nothing.
pub use Rattle.dspec_record.specs.Words.{enabled, EnabledRows, Record, table_accepts, table_shape, table_text}
pub use Rattle.dspec_record.specs.declared.field.Field.TheVariants.{Four}
pub use Rattle.dspec_record.specs.declared.field.Shape.{Shape}
pub use Rattle.dspec_record.specs.declared.header.Header.TheVariants.{One}
pub use Rattle.dspec_buffer.specs.Words.{BufferText}
pub use Rattle.dspec_word.specs.Words.{settle_at, SlotState, Speculation}
pub use Rattle.dspec_deeds.specs.Words.{ack, calls, id_given, is_granted, offers, records_of_report, word_at}
pub use Rattle.dspec_deeds.specs.declared.calls.Decided.{Decided}
pub use Rattle.dspec_deeds.specs.declared.calls.Opening.{Opening}
pub use Rattle.dspec_deeds.specs.declared.calls.Served.{Served as ServedSo}
pub use Rattle.dspec_deeds.specs.declared.calls.Spoken.{Spoken}
pub use Rattle.dspec_deeds.specs.declared.calls.Traced.{Traced}
pub use Rattle.dspec_deeds.specs.declared.config.Config.{Config}
pub use Rattle.dspec_deeds.specs.declared.config.StartFault.{StartFault}
pub use Rattle.dspec_deeds.specs.declared.deed.DecideFate.{DecideFate}
pub use Rattle.dspec_deeds.specs.declared.deed.Deed.{Deed}
pub use Rattle.dspec_deeds.specs.declared.deed.Deed.TheVariants.{Commit, Discard, Scan}
pub use Rattle.dspec_interleaving.specs.Words.{own_closed, own_closed_slot}
pub use Rattle.dspec_table.specs.Words.{known, set_up}
pub use Rattle.dspec_table.specs.declared.rule.View.{View}
pub use Rattle.dspec_ring.specs.Words.{Pair}
pub use Rattle.dspec_ring.specs.declared.batch.Batch.{Batch}
pub use Rattle.dspec_cpu.specs.Words.{buffers_of, calls_of, config_of, CpuIdentity, decided_deeds, identity, is_worn_opening, IsCallable, misses, number_in, opening_deeds, schema_of, seat_of}
pub use Rattle.dspec_cpu.specs.Words.{Serves, SettledAfter, SettledSlots, spoken_deeds, traced_deeds, with_seal, words_of, worn_of}
pub use Rattle.dspec_cpu.specs.declared.cpu.Cpu.{Cpu}
pub use Rattle.dspec_cpu.specs.declared.shared.Shared.{Shared}
pub use Rattle.dspec_session_core.specs.Words.{Asked, Cleaned, Consuming, FoundNone, GaveBack, Has, HasAt, IsClosedBy, IsConsumerOf, IsCpuOf, IsFresh, IsLeftBy, IsNotTakenBack, IsSameConsumer}
pub use Rattle.dspec_session_core.specs.Words.{IsSession, pairs_of, set_up_of, Stays, Stopped, taken_at, Took, view_of, worn_at}
pub use Rattle.dspec_session_core.specs.declared.left.Left.{Left}
pub use Rattle.dspec_session_core.specs.declared.session.Session.{Session}
