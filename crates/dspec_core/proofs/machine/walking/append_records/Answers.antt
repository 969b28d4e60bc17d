-- One more record is after what was taken.
use Rattle.std.proofs.{Common.arith, lemmas.Bool.Decides.nat_tests}
use Rattle.dspec_deeds.proofs.{Results.of_ok, Walks.walk_goes, Walks.grew_more}
use Rattle.dspec_core.proofs.machine.walking.append_records.Goals as goal

pub loop-preserved : goal.loop-preserved
loop-preserved g c = grind (arith, nat_tests, of_ok, grew_more, walk_goes, c.is_err.ensures.value, c.if-is_err.false, c.push.ensures.ok, c.loop.invariant.0, c.loop.invariant.1, c.in-Some.ensures)
