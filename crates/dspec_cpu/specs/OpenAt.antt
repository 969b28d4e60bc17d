-- Cited by calls. Of which speculation of a slot a CPU has records.
use Rattle.std.specs.Prelude.{ℕ, ◌≡◌, ◌≢◌, ◌+◌, List, [], Option, Some, None}
use Rattle.dspec_cpu.specs.Words.Outside.{Speculation, mark, held, Deed}

-- By the CPU's own list: it is the one granted to it last, and the CPU holds records of it, since it neither decided nor settled it.
-- Where none is told, the CPU holds no record of any of the slot.
abbrev pub IsOpenAt : ℕ → ℕ → List Deed → Option Speculation → Type 0
IsOpenAt c slot p (Some id) = (id.slot ≡ slot) × (mark c slot p ≡ id.issue + 1) × (held c id p ≢ [])
IsOpenAt c slot p None = (id : Speculation) → id.slot ≡ slot → held c id p ≡ []
