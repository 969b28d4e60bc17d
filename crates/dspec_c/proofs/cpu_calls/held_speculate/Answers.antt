use Rattle.std.proofs.Common.{refl}
use Rattle.dspec_c.proofs.Calls.{on_cpu}
use Rattle.dspec_c.proofs.cpu_calls.held_speculate.Goals as goal

pub returns-in-Cpu : goal.returns-in-Cpu
returns-in-Cpu c = on_cpu _ _ _ _ _ _ _ c.in-Cpu.is refl c.speculate.ensures
