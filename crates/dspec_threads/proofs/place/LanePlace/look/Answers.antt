use Rattle.std.proofs.{Common.arith, lemmas.Bool.Decides.nat_tests}
use Rattle.dspec_threads.proofs.Whereabouts.{comes_in}
use Rattle.dspec_threads.proofs.place.LanePlace.look.Goals as goal

pub returns-in-Ok-clause-looked : goal.returns-in-Ok-clause-looked
returns-in-Ok-clause-looked g c = grind (arith, nat_tests, comes_in, c.if-is_some.ensures, c.take.ensures.value, c.in-Some.is, c.in-Ok.ensures.ok.2)
