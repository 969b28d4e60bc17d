use Rattle.std.proofs.{Common.arith, lemmas.Bool.Decides.nat_tests}
use Rattle.dspec.proofs.Passing.{got_rest, got_rests}
use Rattle.dspec.proofs.running.pass_rest.Goals as goal

pub returns-in_default : goal.returns-in_default
returns-in_default g c = grind (arith, nat_tests, got_rest, c.rest.ensures.sealed, c.rest.ensures.last)

pub returns : goal.returns
returns g c = grind (arith, nat_tests, got_rests, c.rest.ensures.sealed, c.rest.ensures.last)
