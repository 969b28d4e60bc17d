-- What the mark of an identifier's slot tells, where it is looked up before the slot is known to be one of the session's.
use Rattle.std.proofs.Common.{◌≡◌, ℕ, ◌+◌, ◌-◌, ◌==◌, ◌≤◌, Bool, true, List, length, Some, arith}
use Rattle.std.proofs.lemmas.{Bool.Decides.nat_tests, Option.slice_get_within}
use Rattle.std.specs.Prelude.{slice_get}
use Rattle.dspec_cpu.specs.Words.{Speculation, in_range, mark, Config, Deed}
use Rattle.dspec_cpu.proofs.{Outside.inside_of, Reaches.slot_inside}

module _ (k : Config) (id : Speculation) (marks : List ℕ) (mine : Bool) where
  -- a slot that has the speculation's mark is one of the session's
  pub marked_inside : length marks ≡ k.nspec → (mine ≡ true → (1 ≤ id.slot) × (slice_get marks (id.slot - 1) ≡ Some (id.issue + 1))) → mine ≡ true → in_range k id ≡ true
  marked_inside count marked e = grind (arith, nat_tests, slice_get_within, inside_of)

  -- and of one that is, the mark tells whether the CPU is a caller
  pub marked_is : ((m : ℕ) → 1 ≤ id.slot → slice_get marks (id.slot - 1) ≡ Some m → mine ≡ (m == id.issue + 1)) → in_range k id ≡ true → (c : ℕ) (p : List Deed)
      → ((s : ℕ) → 1 ≤ s → s ≤ k.nspec → slice_get marks (s - 1) ≡ Some (mark c s p)) → mine ≡ (mark c id.slot p == id.issue + 1)
  marked_is tells inside c p each = let slot = slot_inside k id inside in tells (mark c id.slot p) slot.0 (each id.slot slot.0 slot.1)
