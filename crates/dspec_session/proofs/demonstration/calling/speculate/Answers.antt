use Rattle.std.proofs.Common.{subst}
use Rattle.dspec_session.specs.Words.{Record, spoken_deeds, number_in, WorkerAdds}
use Rattle.dspec_session.proofs.demonstration.calling.speculate.Goals as goal

pub returns-clause-speculates : goal.returns-clause-speculates
returns-clause-speculates c = (
  c.speculate.result,
  subst (λ (r : Record). WorkerAdds (spoken_deeds (number_in c.args.cpu.now) c.args.id r c.speculate.result) c.args.cpu.now c.speculate.new.self)
      c.valued_record.ensures.value c.speculate.ensures.does.does.list,
)
