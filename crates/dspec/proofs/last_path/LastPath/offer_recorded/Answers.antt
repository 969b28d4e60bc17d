use Rattle.std.proofs.{Common.arith, lemmas.Bool.Decides.nat_tests}
use Rattle.dspec.proofs.LastPaths.{records_so}
use Rattle.dspec.proofs.last_path.LastPath.offer_recorded.Goals as goal

pub returns-clause-does : goal.returns-clause-does
returns-clause-does g c = grind (arith, nat_tests, records_so, c.id.ensures, c.speculate_recorded-first.ensures.does, c.follow.ensures.does)
