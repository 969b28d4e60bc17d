use Rattle.std.proofs.{Common.refl, Common.arith, lemmas.Bool.Decides.nat_tests, lemmas.List.take_all}
use Rattle.dspec.proofs.Passing.{got_more}
use Rattle.dspec.proofs.running.pass_rests.Goals as goal

pub loop-cpu-init : goal.loop-cpu-init
loop-cpu-init g c = refl

pub loop-cpu-preserved : goal.loop-cpu-preserved
loop-cpu-preserved g c = grind (arith, nat_tests, got_more, c.loop-cpu-test.true, c.requires, c.loop-cpu.invariant, c.pass_rest.ensures)

pub returns : goal.returns
returns g c = grind (arith, nat_tests, take_all, c.loop-cpu-test.false, c.requires, c.loop-cpu.invariant)
