use Rattle.dspec_session.proofs.Worked.{begun, one_more, and_served}
use Rattle.dspec_session.proofs.demonstration.working.make_round.Goals as goal

pub returns-clause-worked : goal.returns-clause-worked
returns-clause-worked g c =
    let x = c.args.cpu.now in
    and_served 4 2 x _ _
    (one_more 3 2 0 x _ _
    (one_more 2 1 1 x _ _
    (one_more 1 1 0 x _ _ (begun 1 x _ c.trace.ensures.called) c.speculation-id.ensures.called)
    c.speculate.ensures.called)
    c.decide.ensures.called)
    c.service.ensures.served

pub returns-clause-made : goal.returns-clause-made
returns-clause-made g c = λ _. record {
  id = c.speculation-id.result;
  traced = c.trace.new.cpu;
  opened = c.speculation-id.new.cpu;
  spoken = c.speculate.new.cpu;
  decided = c.decide.new.cpu;
  traces = c.trace.ensures.traces;
  opens = c.speculation-id.ensures.opens;
  speculates = c.speculate.ensures.speculates;
  decides = c.decide.ensures.decides;
  services = c.service.ensures.services;
}
