use Rattle.dspec_deeds.specs.declared.calls.Actor.TheVariants as actor
use Rattle.dspec_interleaving.proofs.Coherence.{start_coherent, begin_cpu_coherent, begin_consumer_coherent, step_coherent}
use Rattle.dspec_interleaving.proofs.laws.schedule_legality.Goals as goal

pub returns-clause-start : goal.returns-clause-start
returns-clause-start c = start_coherent

pub returns-clause-cpu_begins : goal.returns-clause-cpu_begins
returns-clause-cpu_begins c = begin_cpu_coherent

pub returns-clause-consumer_begins : goal.returns-clause-consumer_begins
returns-clause-consumer_begins c = begin_consumer_coherent

pub returns-clause-cpu_steps : goal.returns-clause-cpu_steps
returns-clause-cpu_steps c shape st cpu ok lt = step_coherent shape (actor.Cpu cpu) st ok lt

pub returns-clause-consumer_steps : goal.returns-clause-consumer_steps
returns-clause-consumer_steps c shape st ok = step_coherent shape actor.Consumer st ok tt

pub returns-clause-legal : goal.returns-clause-legal
returns-clause-legal c shape st ok = (ok.legal, ok.authors)
