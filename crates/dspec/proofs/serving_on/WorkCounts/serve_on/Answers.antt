use Rattle.std.proofs.{Common.arith, Common.refl, lemmas.Bool.Decides.nat_tests}
use Rattle.dspec.proofs.Serving.{not_served, served_again}
use Rattle.dspec.proofs.serving_on.WorkCounts.serve_on.Goals as goal

pub loop-early-init : goal.loop-early-init
loop-early-init g c = record { same = refl; served = not_served _ }

pub loop-early-preserved : goal.loop-early-preserved
loop-early-preserved g c = grind (arith, nat_tests, served_again, c.serve.ensures.same, c.loop-early.invariant.same, c.loop-early.invariant.served, c.serve.ensures.served)

pub loop-late-preserved : goal.loop-late-preserved
loop-late-preserved g c = grind (arith, nat_tests, served_again, c.serve-in-loop-late.ensures.same, c.loop-late.invariant.same, c.loop-late.invariant.served, c.serve-in-loop-late.ensures.served)
