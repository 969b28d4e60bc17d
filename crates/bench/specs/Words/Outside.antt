-- Serves proofs. Words from the crates below, in one place. Declares nothing.
pub use Rattle.dspec_deeds.specs.Words.{scan}
pub use Rattle.dspec_table.specs.Words.{cpu_of, fresh_seat, FreshSeats, IsAt, known, set_up}
pub use Rattle.dspec_table.specs.declared.rule.View.{View}
pub use Rattle.dspec_table.specs.declared.seats.CpuSeat.{CpuSeat}
pub use Rattle.dspec_cpu.specs.Words.{identity, IsCallable}
pub use Rattle.dspec_cpu.specs.declared.cpu.Cpu.{Cpu}
pub use Rattle.dspec_cpu.specs.declared.shared.Shared.{Shared}
pub use Rattle.dspec_session_core.specs.Words.{IsSession}
pub use Rattle.dspec_session_core.specs.declared.session.Session.{Session}
pub use Rattle.dspec.specs.Words.{AllCallable, place_of}
pub use Rattle.test_words.specs.Words.{Unused}
