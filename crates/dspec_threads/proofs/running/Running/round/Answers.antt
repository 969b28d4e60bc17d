use Rattle.std.specs.Arc.{arc_value}
use Rattle.dspec_threads.proofs.Runs.{more_taken}
use Rattle.dspec_threads.proofs.running.Running.round.Goals as goal

pub invariant_of-self : goal.invariant_of-self
invariant_of-self g c = (
  more_taken (g.K.Sink.gets c.self.inside.schema) g.D.Duty.done (arc_value c.self.inside.common.shared) _ _ _ _ _ _ _ _ _ c.self.invariant.0 c.words.ensures c.visit_all.ensures.passes,
  c.self.invariant.1,
)
