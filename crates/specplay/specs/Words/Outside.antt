-- Serves proofs. Words from the crates below, in one place. Declares nothing.
pub use Rattle.dspec_record.specs.declared.header.Header.{Header}
pub use Rattle.dspec_interleaving.specs.declared.outcome.Outcome.{Outcome}
pub use Rattle.dspec_session.specs.Words.{AllBalanced}
pub use Rattle.dspec_session.specs.declared.demonstration.DemoFault.{DemoFault}
pub use Rattle.dspec_session.specs.declared.demonstration.lines.DemoLine.{DemoLine}
pub use Rattle.dspec_schedule.specs.Words.{header_of, Plan, plan_of, printed_text, yes_no}
unfoldable pub use Rattle.dspec_schedule.specs.Words.{schedule_of}
pub use Rattle.dspec_schedule.specs.declared.fault.ScheduleFault.{ScheduleFault}
pub use Rattle.dspec_replay.specs.Words.{fault_of, IsPlayedText, IsPlayOf, IsTextFault}
pub use Rattle.dspec_replay.specs.declared.input.InputFault.{InputFault}
