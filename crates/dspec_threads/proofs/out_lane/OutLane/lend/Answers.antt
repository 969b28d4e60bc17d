use Rattle.std.specs.Arc.{arc_value}
use Rattle.dspec_threads.proofs.Homes.{still_callable, still_out}
use Rattle.dspec_threads.proofs.out_lane.OutLane.lend.Goals as goal

pub invariant_of-self : goal.invariant_of-self
invariant_of-self g c = (
  still_callable (arc_value c.self.inside.shared) c.self.inside.cpu c.call.new.cpu c.call.ensures.same c.self.invariant.0,
  still_out _ c.self.inside.cpu c.call.new.cpu c.call.ensures.same c.self.invariant.1,
  c.self.invariant.2,
)
