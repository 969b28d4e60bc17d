use Rattle.std.proofs.{Common.arith, lemmas.Bool.Decides.nat_tests}
use Rattle.dspec_threads.proofs.MoreWaits.{serves_once_more}
use Rattle.dspec_threads.proofs.barrier.Barrier.wait.Goals as goal

pub loop-preserved : goal.loop-preserved
loop-preserved g c = grind (arith, nat_tests, serves_once_more, c.serve.ensures.same, c.loop.invariant.same, c.loop.invariant.serves, c.serve.ensures.serves)
