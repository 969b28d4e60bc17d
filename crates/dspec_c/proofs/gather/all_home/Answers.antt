use Rattle.std.proofs.Common.{add-one, sym, arith}
use Rattle.dspec_c.proofs.Looking.{all_after, all_looked, all_themselves, is_here, looked_came, none_here, one_looked, same_length}
use Rattle.dspec_c.proofs.gather.all_home.Goals as goal

pub loop-cpu-init : goal.loop-cpu-init
loop-cpu-init c = record { came = all_themselves _; inside = λ k small. absurd (omega (arith, small)) }

pub is_in-requires : goal.is_in-requires
is_in-requires c = omega (arith, same_length _ _ c.loop-cpu.invariant.came)

pub loop-cpu-preserved : goal.loop-cpu-preserved
loop-cpu-preserved c =
    let came = looked_came _ _ _ c.if-not-is_in.ensures.looked in
    record {
      came = all_after _ _ _ c.loop-cpu.invariant.came came;
      inside = rw add-one (one_looked _ _ _ came c.loop-cpu.invariant.inside (is_here c.is_in.new.places.items c.loop-cpu.cpu (sym c.if-not-is_in.ensures.inside)));
    }

pub returns-then-not-is_in-clause-came : goal.returns-then-not-is_in-clause-came
returns-then-not-is_in-clause-came c = all_after _ _ _ c.loop-cpu.invariant.came (looked_came _ _ _ c.if-not-is_in.ensures.looked)

pub returns-then-not-is_in-clause-home : goal.returns-then-not-is_in-clause-home
returns-then-not-is_in-clause-home c =
    let came = looked_came _ _ _ c.if-not-is_in.ensures.looked in
    none_here c.is_in.new.places.items c.loop-cpu.cpu (omega (arith, same_length _ _ c.loop-cpu.invariant.came, same_length _ _ came)) (sym c.if-not-is_in.ensures.inside)

pub returns-clause-home : goal.returns-clause-home
returns-clause-home c = all_looked _ c.loop-cpu.cpu (omega (arith, same_length _ _ c.loop-cpu.invariant.came)) c.loop-cpu.invariant.inside
