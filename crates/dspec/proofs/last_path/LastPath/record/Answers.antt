use Rattle.std.proofs.{Common.arith, lemmas.Bool.Decides.nat_tests}
use Rattle.dspec.proofs.LastPaths.{values_so}
use Rattle.dspec.proofs.last_path.LastPath.record.Goals as goal

pub returns-clause-does : goal.returns-clause-does
returns-clause-does g c = grind (arith, nat_tests, values_so, c.schema.ensures, c.in-Some.ensures.holds, c.in-Some.ensures.due.0, c.offer_recorded.ensures.does)
