-- Serves proofs. Words from the crates below, in one place. Declares nothing.
pub use Rattle.dspec_record.specs.Words.{EnabledRows}
pub use Rattle.dspec_table.specs.Words.{cpu_of, fresh_seat, FreshSeats, IsAt, IsConsumerAt, known}
pub use Rattle.dspec_table.specs.declared.rule.View.{View}
pub use Rattle.dspec_table.specs.declared.seats.CpuSeat.{CpuSeat}
pub use Rattle.dspec_cpu.specs.Words.{Belongs, identity, schema_of, words_of}
pub use Rattle.dspec_session_core.specs.Words.{IsSession}
