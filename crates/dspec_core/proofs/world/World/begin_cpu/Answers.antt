-- What is promised, from coherence.
use Rattle.dspec_core.proofs.PromiseKept.{promise_kept}
use Rattle.dspec_core.proofs.world.World.begin_cpu.Goals as goal

pub returns-then-cpu-self-clause-promised : goal.returns-then-cpu-self-clause-promised
returns-then-cpu-self-clause-promised g c = rw (← c.self.view_is) (promise_kept c.self.invariant)

pub returns-then-is_some-clause-promised : goal.returns-then-is_some-clause-promised
returns-then-is_some-clause-promised g c = rw (← c.self.view_is) (promise_kept c.self.invariant)

pub returns-then-not-is_accepted-clause-promised : goal.returns-then-not-is_accepted-clause-promised
returns-then-not-is_accepted-clause-promised g c = rw (← c.self.view_is) (promise_kept c.self.invariant)

pub returns-clause-promised : goal.returns-clause-promised
returns-clause-promised g c = promise_kept c.begin_cpu.ensures.kept
