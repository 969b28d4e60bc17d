use Rattle.std.proofs.Common.{refl, sym, arith}
use Rattle.dspec_c.proofs.AllHome.{all_after, none_there, one_kept, one_more}
use Rattle.dspec_c.proofs.closing.have_cpus.Goals as goal

pub returns-then-not-has_cpu-clause-have : goal.returns-then-not-has_cpu-clause-have
returns-then-not-has_cpu-clause-have c = sym (none_there c.args.cpus.now c.loop-at.cpus c.loop-at.at _ (omega arith) c.loop-at.invariant.leave c.if-not-has_cpu.ensures.has)

pub loop-at-preserved : goal.loop-at-preserved
loop-at-preserved c = record {
  leave = all_after _ _ _ c.loop-at.invariant.leave (one_kept c.loop-at.cpus c.loop-at.at _ _ refl c.if-not-has_cpu.ensures.leaves);
  cpus = one_more c.args.cpus.now c.loop-at.cpus c.loop-at.at _ (omega arith) c.loop-at.invariant.leave c.loop-at.invariant.cpus c.if-not-has_cpu.ensures.has;
}
