use Rattle.std.proofs.Common.{false}
use Rattle.dspec_cpu.specs.Words.{serving}
use Rattle.dspec_cpu.proofs.parts.CpuParts.settle_slot.Given as goal

abbrev pub ghosts-load_word : goal.ghosts-load_word
ghosts-load_word g a = record { doing = serving false 0 false }
