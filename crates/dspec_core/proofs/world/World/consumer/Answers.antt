use Rattle.std.proofs.{Common.arith, lemmas.Bool.Decides.nat_tests}
use Rattle.dspec_core.proofs.world.World.consumer.Goals as goal

pub returns-clause-about : goal.returns-clause-about
returns-clause-about g c = grind (arith, nat_tests, c.self.view_is, c.self.invariant.about)
