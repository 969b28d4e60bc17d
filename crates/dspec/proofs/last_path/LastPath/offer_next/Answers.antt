use Rattle.std.proofs.{Common.arith, lemmas.Bool.Decides.nat_tests}
use Rattle.dspec.proofs.LastPaths.{offers_next_so}
use Rattle.dspec.proofs.last_path.LastPath.offer_next.Goals as goal

pub returns-in-Id-clause-offers : goal.returns-in-Id-clause-offers
returns-in-Id-clause-offers g c = grind (arith, nat_tests, offers_next_so, c.in-Id.is, c.speculate_recorded-answer.ensures.does, c.settle.ensures.settles)
