-- Serves proofs. Words from the crates below, in one place. Declares nothing.
pub use Rattle.dspec_record.specs.Words.{EnabledRows}
pub use Rattle.dspec_cpu.specs.Words.{identity, IsCallable, schema_of, words_of}
pub use Rattle.dspec_cpu.specs.declared.cpu.Cpu.{Cpu}
pub use Rattle.dspec_cpu.specs.declared.shared.Shared.{Shared}
pub use Rattle.dspec_session_core.specs.Words.{IsCpuOf, IsSession, pairs_of, Stays}
pub use Rattle.dspec_session_core.specs.declared.session.Session.{Session}
pub use Rattle.dspec_schedule.specs.Words.{header_of, plan_of}
pub use Rattle.dspec_schedule.specs.declared.schedule.Schedule.{Schedule}
pub use Rattle.dspec_replay.specs.Words.{accepted_in, IsDue, schedule_refusal, whole_call_of}
pub use Rattle.dspec_replay.specs.declared.session_fault.SessionFault.{SessionFault}
pub use Rattle.dspec_replay.specs.declared.session_fault.SessionFault.TheVariants.{Play}
