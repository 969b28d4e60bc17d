-- Each CPU more leaves a list that can close.
use Rattle.std.proofs.{Common.arith, lemmas.Bool.Decides.nat_tests}
use Rattle.dspec_core.proofs.Settlings.{closes_further, cpus_more}
use Rattle.dspec_core.proofs.machine.Machine.close.Goals as goal

pub loop-cpu-preserved : goal.loop-cpu-preserved
loop-cpu-preserved g c = grind (arith, nat_tests, closes_further, cpus_more, c.loop-cpu.invariant, c.in_ok-close_cpu.ensures)

pub returns : goal.returns
returns g c = grind (arith, nat_tests, c.loop-cpu-test.false, c.loop-cpu.invariant)
