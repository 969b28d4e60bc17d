use Rattle.dspec_cpu.proofs.Slots.{asked}
use Rattle.dspec_cpu.proofs.scanning.look_at.Given as goal

abbrev pub ghosts-load_word : goal.ghosts-load_word
ghosts-load_word a = record { doing = asked }
