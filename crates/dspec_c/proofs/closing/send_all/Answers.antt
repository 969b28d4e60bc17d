use Rattle.std.proofs.Common.{◌∙◌, refl, arith}
use Rattle.dspec_c.proofs.AllHome.{is_gone, one_empty, one_same, others_held}
use Rattle.dspec_c.proofs.closing.send_all.Goals as goal

pub loop-number-preserved : goal.loop-number-preserved
loop-number-preserved c = record {
  same = one_same c.loop-number.cpus c.loop-number.number _ _ refl ∙ c.loop-number.invariant.same;
  empty = one_empty c.loop-number.cpus c.loop-number.number _ (omega arith) c.loop-number.invariant.empty
      (is_gone c.args.cpus.now c.loop-number.cpus c.loop-number.number _ c.dspec_cpu_home.result c.dspec_cpu_home.new.cpu (omega arith)
      c.loop-number.invariant.same c.loop-number.invariant.others c.requires c.dspec_cpu_home.ensures);
  others = others_held c.args.cpus.now c.loop-number.cpus c.loop-number.number _ c.loop-number.invariant.others;
}
