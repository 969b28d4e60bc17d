-- Cited by calls. What a CPU's own list tells before a call on the first slot.
use Rattle.std.specs.Prelude.{ℕ, ◌≡◌, List, []}
use Rattle.test_words.specs.Words.Outside.{Speculation, scan, callers, ack, SlotState, MayLoad, MayTry, Attempts, IsAt, cpu_of, known, set_up, Config, Deed, View, Doing, CpuSeat}
use Rattle.dspec_table.specs.declared.seats.Words.{Words}

-- no call of the CPU is in flight, it is no caller of anything, and it has settled nothing of the first slot
abbrev pub Unused : Config → ℕ → List Deed → Type 0
Unused k c own = (scan k c own ≡ 0) × ((id : Speculation) → callers id own ≡ []) × (ack c 1 own ≡ 0)

-- such a CPU, at these words, may load the first slot's word in this call
abbrev pub MayBegin : Words → CpuSeat → Doing → Type 0
MayBegin words seat doing =
    IsAt words seat × MayLoad (set_up words) (known seat) (cpu_of seat) doing 1 doing.op × Unused (set_up words) (cpu_of seat) (known seat).own

-- at the word that a step showed, the call may try what its table attempts; that step entered nothing
abbrev pub Next : Config → View → View → ℕ → Doing → SlotState → Type 0
Next k v w c doing shown = (to : SlotState) → Attempts doing shown to doing.op → MayTry k w c doing 1 shown to × (w.own ≡ v.own)
