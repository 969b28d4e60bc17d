-- Believed. Which CPU of which words a CPU is.
use Rattle.std.specs.Prelude.{ℕ, ◌≡◌}
use Rattle.atomic_table.specs.Seated.{TableId}
use Rattle.dspec_cpu.specs.{Lists.words_of, Words.Outside.Config, Words.Outside.set_up, Words.Outside.Pair, declared.parts.CpuParts.CpuParts as Cpu, declared.shared.Shared.Shared}
use Rattle.dspec_table.specs.declared.seats.Words.{Words}

-- which CPU it is: no call changes it
pub record CpuIdentity (S : Type 0) : Type 0 where
  pub schema : S
  pub config : Config
  pub number : ℕ
  pub pair : Pair
  pub table : TableId

abbrev pub identity : {S : Type 0} → Cpu S → CpuIdentity S
identity cpu = record { schema = cpu.schema; config = cpu.config; number = cpu.cpu; pair = cpu.end.pair; table = cpu.seat.seat.table_id }

-- it is a CPU of the session with these words
pub record Belongs {S : Type 0} (words : Words) (i : CpuIdentity S) : Type 0 where
  pub table : i.table ≡ words.board.shared.table_id
  pub config : i.config ≡ set_up words

-- it can be called by those who share this
abbrev pub IsCallable : {S : Type 0} → Shared → Cpu S → Type 0
IsCallable shared cpu = Belongs (words_of shared) (identity cpu)
