use Rattle.std.proofs.Common.{refl, sym, ◌∙◌}
use Rattle.dspec_threads.specs.Words.{whereabouts}
use Rattle.dspec_threads.proofs.Whereabouts.{tended}
use Rattle.dspec_threads.proofs.place.LanePlace.tend.Goals as goal

pub returns : goal.returns
returns g c = tended g.D.Duty.done (whereabouts c.args.self.now) _ c.in-Some.cpu c.serve.new.cpu (sym c.take.ensures.value ∙ c.in-Some.is) refl c.serve.ensures.same c.serve.ensures.served
