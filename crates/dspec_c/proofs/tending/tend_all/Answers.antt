use Rattle.std.proofs.Common.{refl, add-one, arith}
use Rattle.dspec_c.proofs.Tends.{one_more, place_on, tended_length}
use Rattle.dspec_c.proofs.tending.tend_all.Goals as goal

pub loop-cpu-init : goal.loop-cpu-init
loop-cpu-init c = record { tended = (refl, refl); few = omega arith }

pub tend_one-settled-requires-clause-some : goal.tend_one-settled-requires-clause-some
tend_one-settled-requires-clause-some c = omega (arith, c.requires.count, tended_length _ _ _ _ c.loop-cpu.invariant.tended)

pub tend_one-settled-requires-clause-place : goal.tend_one-settled-requires-clause-place
tend_one-settled-requires-clause-place c = λ first at. place_on c.args.shared.now _ _ _ _ c.loop-cpu.cpu first c.loop-cpu.invariant.tended c.requires.place at

pub loop-cpu-preserved : goal.loop-cpu-preserved
loop-cpu-preserved c = record {
  tended = rw add-one (one_more _ _ _ _ _ _ c.loop-cpu.invariant.tended c.tend_one-settled.ensures.tends);
  few = omega (arith, c.loop-cpu.invariant.few, c.tend_one-settled.ensures.few);
}
