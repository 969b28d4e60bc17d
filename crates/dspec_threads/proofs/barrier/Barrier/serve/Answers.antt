use Rattle.dspec_threads.proofs.barrier.Barrier.serve.Goals as goal

pub returns-clause-serves : goal.returns-clause-serves
returns-clause-serves g c = record { answer = c.service.result; serves = c.service.ensures.does }
