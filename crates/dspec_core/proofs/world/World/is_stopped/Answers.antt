-- Activity shows the list, by what a world keeps.
use Rattle.std.proofs.{Common.arith, lemmas.Bool.Decides.nat_tests}
use Rattle.dspec_core.proofs.world.World.is_stopped.Goals as goal

pub returns : goal.returns
returns g c = grind (arith, nat_tests, c.self.view_is, c.self.invariant.shown.active)
