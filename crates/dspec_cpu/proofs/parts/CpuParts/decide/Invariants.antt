use Rattle.dspec_cpu.proofs.parts.CpuParts.decide.Given as goal

abbrev pub ghosts-go_on_as : goal.ghosts-go_on_as
ghosts-go_on_as g a = record { doing = a.doing.now }
