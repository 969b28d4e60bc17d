-- Each slot more leaves a list that can close.
use Rattle.std.proofs.{Common.arith, lemmas.Bool.Decides.nat_tests}
use Rattle.dspec_core.proofs.Settlings.{closes_further, slots_more}
use Rattle.dspec_core.proofs.machine.Machine.close_cpu.Goals as goal

pub loop-slot-preserved : goal.loop-slot-preserved
loop-slot-preserved g c = grind (arith, nat_tests, closes_further, slots_more, c.loop-slot.invariant, c.in_ok-close_slot.ensures)

pub returns : goal.returns
returns g c = grind (arith, nat_tests, c.loop-slot-test.false, c.loop-slot.invariant)
