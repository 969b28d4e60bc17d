-- Serves proofs. Words from the crates below, in one place. Declares nothing.
pub use Rattle.dspec_record.specs.Words.{EnabledRows, Record}
pub use Rattle.dspec_record.specs.declared.field.Field.{Field}
pub use Rattle.dspec_record.specs.declared.field.Field.TheVariants.{Eight, Four, One, Two}
pub use Rattle.dspec_record.specs.declared.header.Header.{Header}
pub use Rattle.dspec_word.specs.Words.{id_number, Speculation}
pub use Rattle.dspec_deeds.specs.Words.{start_fault}
pub use Rattle.dspec_deeds.specs.declared.calls.Actor.{Actor}
pub use Rattle.dspec_deeds.specs.declared.calls.Answer.{Answer}
pub use Rattle.dspec_deeds.specs.declared.calls.ConsumerOp.{ConsumerOp}
pub use Rattle.dspec_deeds.specs.declared.calls.ConsumerOp.TheVariants.{Ask, Clean, GiveBack, Stop, Take}
pub use Rattle.dspec_deeds.specs.declared.calls.CpuOp.{CpuOp}
pub use Rattle.dspec_deeds.specs.declared.calls.CpuOp.TheVariants.{Commit, Discard, Service, Speculate, Speculation as Open, Trace}
pub use Rattle.dspec_deeds.specs.declared.calls.Decided.{Decided}
pub use Rattle.dspec_deeds.specs.declared.calls.Op.{Op}
pub use Rattle.dspec_deeds.specs.declared.calls.Opening.{Opening}
pub use Rattle.dspec_deeds.specs.declared.calls.Served.{Served}
pub use Rattle.dspec_deeds.specs.declared.calls.Spoken.{Spoken}
pub use Rattle.dspec_deeds.specs.declared.calls.Traced.{Traced}
pub use Rattle.dspec_deeds.specs.declared.calls.Turn.{Turn}
pub use Rattle.dspec_deeds.specs.declared.calls.Turn.TheVariants.{BeginConsumer, BeginCpu, RunConsumer, RunCpu, Step}
pub use Rattle.dspec_deeds.specs.declared.config.Config.{Config}
pub use Rattle.dspec_deeds.specs.declared.config.Policy.{Policy}
pub use Rattle.dspec_deeds.specs.declared.config.StartFault.{StartFault}
pub use Rattle.dspec_deeds.specs.declared.report.Report.{Report}
pub use Rattle.dspec_interleaving.specs.declared.outcome.Outcome.{Outcome}
pub use Rattle.dspec_interleaving.specs.declared.outcome.PlayFault.{PlayFault}
pub use Rattle.dspec_interleaving.specs.declared.outcome.PlayFault.TheVariants.{BadRecord as bad_record, Busy as busy, IdleStep as idle_step, Memory as play_memory, NoSuchActor as no_such_actor}
pub use Rattle.dspec_interleaving.specs.declared.outcome.PlayFault.TheVariants.{Setup as setup}
