use Rattle.std.proofs.Common.{subst}
use Rattle.dspec_session.specs.Words.{Record, traced_deeds, number_in, WorkerAdds}
use Rattle.dspec_session.proofs.demonstration.calling.trace.Goals as goal

pub returns-clause-traces : goal.returns-clause-traces
returns-clause-traces c = (
  c.trace.result,
  subst (λ (r : Record). WorkerAdds (traced_deeds (number_in c.args.cpu.now) r c.trace.result) c.args.cpu.now c.trace.new.self) c.valued_record.ensures.value c.trace.ensures.does.does.list,
)
