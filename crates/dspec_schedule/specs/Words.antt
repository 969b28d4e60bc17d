-- Serves proofs. The words of this crate for its proofs and for the crates above, in one place. Declares nothing.
pub mod Outside
unfoldable pub use Outside.*
unfoldable pub use Rattle.dspec_schedule.specs.Calls.{epid_of, record_read}
pub use Rattle.dspec_schedule.specs.LineWords.{is_numeral, is_printable, numbers_of, wide_number_of}
unfoldable pub use Rattle.dspec_schedule.specs.LineWords.{number_read}
pub use Rattle.dspec_schedule.specs.Printed.{call_line, cpu_lines, printed_text, records_text, yes_no}
pub use Rattle.dspec_schedule.specs.Reading.{configured, HasOneHeader, header_of, lines_of, lines_read, Plan, without_empty_end}
unfoldable pub use Rattle.dspec_schedule.specs.Reading.{first_line_of, line_read, schedule_of, words_read}
pub use Rattle.dspec_schedule.specs.Schedules.{fault_as_told, IsReadingFault, plan_of}
unfoldable pub use Rattle.dspec_schedule.specs.SetUp.{enabling_read, field_of_word}
pub use Rattle.dspec_schedule.specs.Steps.{at_line, each, ◌>>=◌}
