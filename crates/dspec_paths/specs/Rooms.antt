-- Cited by calls. Where a CPU's principal buffer has no room for its block of a speculation.
use Rattle.std.specs.Prelude.{ℕ, ◌≡◌, ◌||◌, false, List, Option}
use Rattle.dspec_paths.specs.Words.Outside.{cpu_block_fits, schema_of, made_all_calls, Shape, Deed, Cpu, Speculation}

-- by each list of its deeds that the CPU has
abbrev pub LacksRoom : {S : Type 0} → (Cpu S → List Deed → Type 0) → (S → ℕ → Option Shape) → Cpu S → Speculation → Type 0
LacksRoom has shape_of cpu id = (p : List Deed) → has cpu p → (made_all_calls cpu || cpu_block_fits (shape_of (schema_of cpu)) cpu id p) ≡ false
