use Rattle.dspec_cpu_state.proofs.Unanswered.{commit_left, discard_left}
use Rattle.dspec_cpu_state.proofs.cpu_state.CpuState.leave_undecided.Goals as goal

pub returns-clause-commits : goal.returns-clause-commits
returns-clause-commits g c = λ s k cpu p id shown. commit_left _ _ p shown id c.decide.new.self c.args.fate c.requires.nothing c.decide.ensures

pub returns-clause-discards : goal.returns-clause-discards
returns-clause-discards g c = λ s k cpu p id shown. discard_left _ _ p shown id c.decide.new.self c.args.fate c.requires.nothing c.decide.ensures
