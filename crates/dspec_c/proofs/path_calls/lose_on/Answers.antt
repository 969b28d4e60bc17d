use Rattle.dspec_c.proofs.Calls.{on_lent}
use Rattle.dspec_c.proofs.path_calls.lose_on.Goals as goal

pub returns-in-Cpu-clause-answers : goal.returns-in-Cpu-clause-answers
returns-in-Cpu-clause-answers c = on_lent _ _ c.args.cpu.now _ _ _ _ c.lend.ensures.value c.in-Cpu.is c.lose_path.ensures
