-- Cited by calls. Which speculation of a slot was granted to a CPU last.
use Rattle.std.specs.Prelude.{ℕ, ◌+◌, ◌==◌, ◌&&◌, List, [], ◌∷◌, if◌then◌else◌}
use Rattle.dspec_deeds.specs.{FateKinds.spoken_granted, declared.deed.Deed.Deed, declared.deed.Deed.TheVariants.Speculate}

-- one more than the issue of the slot that was granted to the CPU last, or 0
abbrev pub mark_after : ℕ → ℕ → Deed → ℕ → ℕ
mark_after c s (Speculate a id r f) m = if spoken_granted f && ((c == a) && (s == id.slot)) then id.issue + 1 else m
mark_after c s d m = m

abbrev pub mark : ℕ → ℕ → List Deed → ℕ
mark c s [] = 0
mark c s (d ∷ h) = mark_after c s d (mark c s h)
