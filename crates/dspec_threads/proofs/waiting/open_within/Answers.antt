use Rattle.std.proofs.{Common.arith, lemmas.Bool.Decides.nat_tests}
use Rattle.dspec_threads.proofs.MoreWaits.{asks_once_more}
use Rattle.dspec_threads.proofs.waiting.open_within.Goals as goal

pub loop-preserved : goal.loop-preserved
loop-preserved g c = grind (arith, nat_tests, asks_once_more, c.in_default.ensures.same, c.loop.invariant.same, c.loop.invariant.asks, c.in_default.ensures.asks)
