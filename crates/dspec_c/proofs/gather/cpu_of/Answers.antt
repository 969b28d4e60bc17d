use Rattle.dspec_c.proofs.Each.{cpu_at}
use Rattle.dspec_c.proofs.gather.cpu_of.Goals as goal

pub returns-clause-of : goal.returns-clause-of
returns-clause-of c = λ shared schema pairs n stands. cpu_at shared schema pairs n _ c.into_home.result _ c.into_home.ensures.same c.into_cpu.ensures stands
