-- The steps stay below the bound of the call in flight.
use Rattle.std.proofs.{Common.arith, Common.◌<◌, Common.subst, lemmas.Bool.Decides.nat_tests}
use Rattle.dspec_core.specs.Words.{CpuProgress, steps_limit, state_of}
use Rattle.dspec_deeds.specs.declared.calls.Actor.TheVariants as actor
use Rattle.dspec_core.proofs.Makings.{progress_is}
use Rattle.dspec_interleaving.proofs.StepCounts.{is_below, steps_below}
use Rattle.dspec_core.proofs.world.World.steps.Goals as goal

pub returns-in-Cpu-clause-bounded : goal.returns-in-Cpu-clause-bounded
returns-in-Cpu-clause-bounded g c =
    let m = c.self.inside.machine in
    let a = c.in-Cpu.cpu in
    let there = rw (← c.self.view_is, c.in-Cpu.is) at c.requires in
    rw (← c.self.view_is, c.in-Cpu.is) (subst (λ (me : CpuProgress). me.steps < steps_limit (actor.Cpu a) (state_of m)) (progress_is c.self.invariant.shown (is_below m.config a there) c.index.ensures)
    (steps_below (g.S.Schema.shape_of m.schema) (state_of m) (actor.Cpu a) c.self.invariant.coherent there))

pub returns-in-Consumer-clause-bounded : goal.returns-in-Consumer-clause-bounded
returns-in-Consumer-clause-bounded g c = grind (arith, nat_tests, steps_below, c.self.view_is, c.in-Consumer.is, c.self.invariant.coherent)
