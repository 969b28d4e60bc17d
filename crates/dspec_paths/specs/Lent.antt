-- Cited by calls. Which CPU of which session is lent to a table.
use Rattle.std.specs.Borrow.{GName}
use Rattle.dspec_paths.specs.{Words.Outside.CpuIdentity, Words.Outside.Ghosts, Words.Outside.Shared, Words.Outside.identity, declared.lent_cpu.LentCpu.LentCpu}

-- the CPU that is lent, what it shares, and to what the reference leads
pub record LentIdentity (S : Type 0) : Type 0 where
  pub shared : Shared
  pub cpu : CpuIdentity S
  pub lent : GName

abbrev pub lent_identity : {S : Type 0} {g : Ghosts S} → LentCpu S g → LentIdentity S
lent_identity l = record { shared = l.shared.now; cpu = identity l.cpu.now; lent = l.cpu.ghost_name }
