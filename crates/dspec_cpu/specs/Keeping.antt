-- Cited by calls. What stays of a CPU: what each of its calls keeps, all of it but its count of worn calls, or all of it but its seat.
use Rattle.std.specs.Prelude.{ℕ, ◌≡◌, ◌≤◌, ◌+◌, ◌↔◌, Bool, true, if◌then◌else◌}
use Rattle.dspec_cpu.specs.{Lists.calls_of, Lists.config_of, Lists.seat_of, Lists.worn_of, Settled.KeepsBatches, Stops.StopsWhereMet, Touching.Touches, Words.Outside.known}
use Rattle.dspec_cpu.specs.{Words.Outside.one_more_worn, declared.parts.CpuParts.CpuParts as Cpu}

-- one call more was answered Worn, and nothing else came of it: no step was made, no ring moved, no buffer touched
abbrev pub WearsAlone : {S : Type 0} → Cpu S → Cpu S → Type 0
WearsAlone old new = new ≡ record old { side = record old.side { counts = record old.side.counts { worn = one_more_worn old.side.counts.worn } } }

-- What every call that counts keeps, by whether its answer is Worn and whether it is Stopped. It leaves what goes through the
-- rings alone. It is worn exactly where the CPU had made all its calls: that is counted, and nothing else comes of it. It makes
-- so many steps at the most, each on a word whose place is within, and heeds a stop that its seat was shown.
pub record CallLeaves {S : Type 0} (is_worn is_stopped : Bool) (most : ℕ) (within : ℕ → Type 0) (old new : Cpu S) : Type 0 where
  pub batches : KeepsBatches old new
  pub worn : (is_worn ≡ true) ↔ ((config_of old).max_calls ≤ calls_of old)
  pub untouched : is_worn ≡ true → WearsAlone old new
  pub wears : worn_of new ≡ (if is_worn then one_more_worn (worn_of old) else worn_of old)
  pub bounded : (known (seat_of new)).steps ≤ (known (seat_of old)).steps + most
  pub touches : Touches within (known (seat_of old)) (known (seat_of new))
  pub stops : StopsWhereMet (known (seat_of old)) is_worn is_stopped (known (seat_of new))

-- it saw more, and is else as it was: its buffers, its rings, the batch held back and the spare in hand, and what it counted
abbrev pub MovesItsSeat : {S : Type 0} → Cpu S → Cpu S → Type 0
MovesItsSeat old new = new ≡ record old { seat = new.seat }
