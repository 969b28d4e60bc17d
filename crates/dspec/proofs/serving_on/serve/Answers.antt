use Rattle.dspec.proofs.serving_on.serve.Goals as goal

pub returns-clause-served : goal.returns-clause-served
returns-clause-served g c = (c.service.result, c.service.ensures.does.tells)
