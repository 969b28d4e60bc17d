use Rattle.dspec_cpu.proofs.Traces.{asked}
use Rattle.dspec_cpu.proofs.parts.CpuParts.trace.Given as goal

abbrev pub ghosts-load_for : goal.ghosts-load_for
ghosts-load_for g a = record { doing = asked (g.R.Recorded.as_record a._rec) a._fits }
