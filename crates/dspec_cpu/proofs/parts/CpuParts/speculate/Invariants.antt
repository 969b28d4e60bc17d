use Rattle.dspec_cpu.specs.Words.{known, speculating}
use Rattle.dspec_cpu.proofs.parts.CpuParts.speculate.Given as goal

-- the record fits where the CPU's own deeds say so
abbrev pub ghosts-offer : goal.ghosts-offer
ghosts-offer g a =
    let cpu = a.self.now in
    record { doing = speculating (g.S.Schema.shape_of cpu.schema) cpu.config cpu.cpu a.id (g.R.Recorded.as_record a.rec) a.mine (known cpu.seat).own }
