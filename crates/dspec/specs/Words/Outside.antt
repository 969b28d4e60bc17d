-- Serves proofs. Words from the crates below, in one place. Declares nothing.
pub use Rattle.dspec_record.specs.Words.{enabled, enabled-IsLimited, EnabledRows, Record, table-shapes_fit, table-texts_differ, table-texts_fit, table_accepts, table_shape, table_text}
pub use Rattle.dspec_record.specs.declared.field.Shape.{Shape}
pub use Rattle.dspec_record.specs.declared.header.Header.{Header}
pub use Rattle.dspec_record.specs.declared.schema.Schema.{Ghosts}
pub use Rattle.dspec_buffer.specs.Words.{BufferText, StopsAt}
pub use Rattle.dspec_word.specs.Words.{id_number, no_speculation, Speculation}
pub use Rattle.dspec_deeds.specs.Words.{dropped_in, id_given, report, stream}
pub use Rattle.dspec_deeds.specs.declared.calls.Decided.{Decided}
pub use Rattle.dspec_deeds.specs.declared.calls.Opening.{Opening}
pub use Rattle.dspec_deeds.specs.declared.calls.Served.{Served}
pub use Rattle.dspec_deeds.specs.declared.calls.Spoken.{Spoken}
pub use Rattle.dspec_deeds.specs.declared.calls.Spoken.TheVariants.{Dropped, Kept}
pub use Rattle.dspec_deeds.specs.declared.calls.Traced.{Traced}
pub use Rattle.dspec_deeds.specs.declared.config.Config.{Config}
pub use Rattle.dspec_deeds.specs.declared.deed.DecideFate.{DecideFate}
pub use Rattle.dspec_deeds.specs.declared.deed.Deed.{Deed}
pub use Rattle.dspec_deeds.specs.declared.deed.Deed.TheVariants.{Release}
pub use Rattle.dspec_deeds.specs.declared.report.Report.{Report}
pub use Rattle.dspec_promise.specs.Words.{all_did, By, commit, did, discard, emptied, service}
pub use Rattle.dspec_table.specs.Words.{known, known_there, set_up}
pub use Rattle.dspec_table.specs.declared.rule.View.{View}
pub use Rattle.dspec_table.specs.declared.seats.ConsumerSeat.{ConsumerSeat}
pub use Rattle.dspec_ring.specs.Words.{ConsumerKnows, IsUnusedConsumer}
pub use Rattle.dspec_ring.specs.declared.batch.Batch.{Batch}
pub use Rattle.dspec_cpu.specs.Words.{called, CallsMade, CommitsIfRoom, config_of, cpu_block_fits, CpuIdentity, DecidesOne, drops_told, identity, IsCallable, IsOpenAt, IsSteady, no_calls, number_in}
pub use Rattle.dspec_cpu.specs.Words.{OffersValues, OpensOne, RecordsValues, schema_of, seat_of, ServesOnce, settled_did, SpeculatesOne, takes_values, TracesOne, waiting, with_values, WithService}
pub use Rattle.dspec_cpu.specs.Words.{words_of, worn_of}
pub use Rattle.dspec_cpu.specs.declared.cpu.Cpu.{Cpu}
pub use Rattle.dspec_cpu.specs.declared.shared.Shared.{Shared}
pub use Rattle.dspec_session_core.specs.Leaving.{Has}
pub use Rattle.dspec_session_core.specs.Words.{AllSteady, Asked, called_at, Cleaned, ClosesAs, Consuming, entered_at, FoundNone, GaveBack, HasAt, HoldInOrder, HoldRecords, IsConsumerOf, IsFresh}
pub use Rattle.dspec_session_core.specs.Words.{IsNotTakenBack, IsPromised, IsPromisedBy, IsSession, KeepsPage, set_up_of, Stays, taken_at, Took, view_of, worn_at}
pub use Rattle.dspec_session_core.specs.declared.left.Left.{Left}
pub use Rattle.dspec_session_core.specs.declared.session.Session.{Session}
pub use Rattle.dspec_probe.specs.Words.{Declared, probed_record, told_record, told_text}
