use Rattle.bench.proofs.Apart.{of_session}
use Rattle.bench.proofs.together.speculate_apart.Goals as goal

pub work_apart-requires-clause-callable : goal.work_apart-requires-clause-callable
work_apart-requires-clause-callable g c κs outlives = of_session _ c.in-Ok.session c.in-Ok.ensures.session
