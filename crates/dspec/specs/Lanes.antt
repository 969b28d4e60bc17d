-- Cited by calls. Which lane of which session a lane is.
use Rattle.std.specs.Borrow.{GName}
use Rattle.dspec.specs.{Words.Outside.Ghosts, Words.Outside.Shared, Words.Outside.CpuIdentity, Words.Outside.identity, declared.lane.Lane.Lane}

-- the CPU that it is lent, and what that shares: no call changes it
pub record LanePosition (S : Type 0) : Type 0 where
  pub shared : Shared
  pub cpu : CpuIdentity S
  pub lent : GName

abbrev pub place_of : {S : Type 0} {g : Ghosts S} → Lane S g → LanePosition S
place_of l = record { shared = l.shared.now; cpu = identity l.cpu.now; lent = l.cpu.ghost_name }
