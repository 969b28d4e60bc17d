-- Serves proofs. Words from the crates below, in one place. Declares nothing.
pub use Rattle.dspec_record.specs.Words.{default_fields, enabled, EnabledRows, FieldTable, Record, table_accepts, table_shape}
pub use Rattle.dspec_record.specs.declared.field.Shape.{Shape}
pub use Rattle.dspec_record.specs.declared.header.Header.{Header}
pub use Rattle.dspec_deeds.specs.Words.{IsLegal, reports, start_fault, streams}
pub use Rattle.dspec_deeds.specs.declared.calls.Actor.{Actor}
pub use Rattle.dspec_deeds.specs.declared.calls.Answer.{Answer}
pub use Rattle.dspec_deeds.specs.declared.calls.ConsumerOp.{ConsumerOp}
pub use Rattle.dspec_deeds.specs.declared.calls.CpuOp.{CpuOp}
pub use Rattle.dspec_deeds.specs.declared.calls.Op.{Op}
pub use Rattle.dspec_deeds.specs.declared.calls.Turn.{Turn}
pub use Rattle.dspec_deeds.specs.declared.calls.Turn.TheVariants.{RunConsumer, RunCpu}
pub use Rattle.dspec_deeds.specs.declared.config.Config.{Config}
pub use Rattle.dspec_deeds.specs.declared.config.StartFault.{StartFault}
pub use Rattle.dspec_deeds.specs.declared.deed.Deed.{Deed}
pub use Rattle.dspec_promise.specs.Words.{commit, discard}
pub use Rattle.dspec_interleaving.specs.Words.{answers_of, deeds_of, EndedCall, play_fault, record_passes, worn_count}
pub use Rattle.dspec_interleaving.specs.declared.outcome.Outcome.{Outcome}
pub use Rattle.dspec_interleaving.specs.declared.outcome.PlayFault.{PlayFault}
pub use Rattle.dspec_ring.specs.declared.batch.Batch.{Batch}
pub use Rattle.dspec_cpu.specs.Words.{DecidesOne, number_in, OpensOne, ServesOnce, SpeculatesOne, TracesOne}
pub use Rattle.dspec_cpu.specs.declared.cpu.Cpu.{Cpu}
pub use Rattle.dspec_session_core.specs.Words.{IsSession}
pub use Rattle.dspec_session_core.specs.declared.session.Session.{Session}
pub use Rattle.dspec_schedule.specs.Words.{fault_as_told, header_of, Plan, records_text}
unfoldable pub use Rattle.dspec_schedule.specs.Words.{schedule_of}
pub use Rattle.dspec_schedule.specs.declared.fault.ScheduleFault.{ScheduleFault}
pub use Rattle.dspec_schedule.specs.declared.fault.ScheduleFault.TheVariants.{Line, Memory}
