use Rattle.std.proofs.{Common.arith, lemmas.Bool.Decides.nat_tests}
use Rattle.dspec_threads.proofs.waiting.asked.Goals as goal

pub returns-clause-asks : goal.returns-clause-asks
returns-clause-asks g c = grind (arith, nat_tests, c.if-raw-ne0.false, c.path-path.ensures.does, c.opening.ensures, c.id.ensures, c.raw.ensures)
