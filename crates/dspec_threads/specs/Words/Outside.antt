-- Serves proofs. Words from the crates below, in one place. Declares nothing.
pub use Rattle.dspec_record.specs.Words.{enabled, EnabledRows, Record, table_accepts, table_shape, table_text}
pub use Rattle.dspec_record.specs.declared.field.Shape.{Shape}
pub use Rattle.dspec_record.specs.declared.schema.Schema.{Ghosts}
pub use Rattle.dspec_word.specs.Words.{id_number, Speculation}
pub use Rattle.dspec_deeds.specs.Words.{id_given, start_fault}
pub use Rattle.dspec_deeds.specs.declared.calls.Decided.{Decided}
pub use Rattle.dspec_deeds.specs.declared.calls.Opening.{Opening}
pub use Rattle.dspec_deeds.specs.declared.calls.Served.{Served}
pub use Rattle.dspec_deeds.specs.declared.config.Config.{Config}
pub use Rattle.dspec_deeds.specs.declared.deed.Deed.{Deed}
pub use Rattle.dspec_promise.specs.Words.{commit, discard}
pub use Rattle.dspec_table.specs.Words.{last_seat, set_up}
pub use Rattle.dspec_table.specs.declared.rule.View.{View}
pub use Rattle.dspec_ring.specs.Words.{IsUnusedConsumer, Pair, popped_from, pushed_into, Ring}
pub use Rattle.dspec_ring.specs.declared.batch.Batch.{Batch}
pub use Rattle.dspec_cpu.specs.Words.{Belongs, called, CallsMade, CpuIdentity, HasList, identity, IsCallable, IsSteady, no_calls, number_in, schema_of, words_of}
pub use Rattle.dspec_cpu.specs.declared.cpu.Cpu.{Cpu}
pub use Rattle.dspec_cpu.specs.declared.shared.Shared.{Shared}
pub use Rattle.dspec_session_core.specs.Leaving.{Has}
pub use Rattle.dspec_session_core.specs.Words.{called_at, ClosesAs, Consuming, entered_at, HasAt, IsCpuOf, IsFresh, IsPromisedBy, IsSession, pairs_of, taken_at, view_of, worn_at}
pub use Rattle.dspec_session_core.specs.declared.left.Left.{Left}
pub use Rattle.dspec_session_core.specs.declared.session.Session.{Session}
pub use Rattle.dspec.specs.Words.{DecisionOn, IsOneList, IsOneListWith, MakesRound, OpeningOn, PassesOn, place_of, ServedOnce, ServiceOn, ThenServed}
pub use Rattle.dspec.specs.declared.handing.Handed.{Handed}
pub use Rattle.dspec.specs.declared.lane.Lane.{Lane}
pub use Rattle.dspec.specs.declared.path.Path.{Path}
