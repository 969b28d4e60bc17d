-- A step that the machine makes is counted, and keeps what is promised.
use Rattle.std.proofs.Common.{ap}
use Rattle.dspec_deeds.specs.declared.calls.Actor.TheVariants as actor
use Rattle.dspec_core.specs.Words.{state_of, WorldView}
use Rattle.dspec_core.proofs.PromiseKept.{promise_after}
use Rattle.dspec_interleaving.proofs.StepCounts.{made_counted}
use Rattle.dspec_core.proofs.world.World.advance.Goals as goal

pub returns-in-Cpu-clause-counted : goal.returns-in-Cpu-clause-counted
returns-in-Cpu-clause-counted g c =
    made_counted (g.S.Schema.shape_of c.self.inside.machine.schema) (state_of c.self.inside.machine) c.args.self.now.state (state_of c.step_cpu.new.self) c.args.actor (actor.Cpu c.in-Cpu.cpu)
    c.step_cpu.result (ap (λ (w : WorldView g.row.S.Denot). w.state) c.self.view_is) c.in-Cpu.is c.self.invariant.coherent c.requires.actor c.requires.busy c.step_cpu.ensures.state
    c.step_cpu.ensures.answered

pub returns-in-Cpu-clause-promised : goal.returns-in-Cpu-clause-promised
returns-in-Cpu-clause-promised g c = promise_after c.step_cpu.new.self c.step_cpu.result c.self.invariant c.step_cpu.ensures.kept c.step_cpu.ensures.refused

pub returns-in-Consumer-clause-counted : goal.returns-in-Consumer-clause-counted
returns-in-Consumer-clause-counted g c =
    made_counted (g.S.Schema.shape_of c.self.inside.machine.schema) (state_of c.self.inside.machine) c.args.self.now.state (state_of c.step_consumer.new.self) c.args.actor actor.Consumer
    c.step_consumer.result (ap (λ (w : WorldView g.row.S.Denot). w.state) c.self.view_is) c.in-Consumer.is c.self.invariant.coherent c.requires.actor c.requires.busy c.step_consumer.ensures.state
    c.step_consumer.ensures.answered

pub returns-in-Consumer-clause-promised : goal.returns-in-Consumer-clause-promised
returns-in-Consumer-clause-promised g c = promise_after c.step_consumer.new.self c.step_consumer.result c.self.invariant c.step_consumer.ensures.kept c.step_consumer.ensures.refused
