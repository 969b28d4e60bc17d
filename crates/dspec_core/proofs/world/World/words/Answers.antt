-- The words show the list, by what a world keeps.
use Rattle.std.proofs.{Common.arith, lemmas.Bool.Decides.nat_tests}
use Rattle.dspec_core.proofs.world.World.words.Goals as goal

pub returns : goal.returns
returns g c = grind (arith, nat_tests, c.self.view_is, c.as_slice.ensures.value, c.self.invariant.shown.words)
