use Rattle.std.proofs.Common.{refl, ap, subst}
use Rattle.dspec_c.specs.Words.{EnabledRows, TellsReport, CpuSide, Reports, Cpu}
use Rattle.dspec_c.proofs.out_cpu.OutCpu.report.Goals as goal

pub returns : goal.returns
returns c = (
  refl,
  refl,
  (
    c.report.result,
    subst (λ (s : CpuSide). Reports s.cpu c.report.result) c.self.view_is (subst (λ (x : Cpu EnabledRows). Reports x c.report.result) c.deref.ensures c.report.ensures),
    subst (λ n. TellsReport c.of.result c.report.result n) (ap (λ (s : CpuSide). s.refused) c.self.view_is) c.of.ensures,
  ),
)
