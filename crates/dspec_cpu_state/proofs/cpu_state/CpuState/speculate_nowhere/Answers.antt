use Rattle.dspec_cpu_state.proofs.Unanswered.{spoken_left}
use Rattle.dspec_cpu_state.proofs.cpu_state.CpuState.speculate_nowhere.Goals as goal

pub returns-clause-shows : goal.returns-clause-shows
returns-clause-shows g c = λ s k cpu p id r shown. spoken_left _ _ p shown id c.speculate.new.self r c.args.fate c.requires.nowhere c.speculate.ensures
