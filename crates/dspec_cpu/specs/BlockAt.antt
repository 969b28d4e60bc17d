-- Cited by calls. The text of the records that a CPU has of a slot's speculation.
use Rattle.std.specs.Prelude.{ℕ, ◌≡◌, Bool, List, [], Option, Some, None, reverse}
use Rattle.dspec_cpu.specs.OpenAt.{IsOpenAt}
use Rattle.dspec_cpu.specs.Words.Outside.{BufferText, Record, Shape, Speculation, contents, held, Deed}

module _ (shape : ℕ → Option Shape) (accepted : Record → Bool) (text : Record → List ℕ) where
  -- by the CPU's own list: the text of what it holds of this speculation, the oldest first; nothing of none
  abbrev pub IsHeldText : ℕ → List Deed → List ℕ → Option Speculation → Type 0
  IsHeldText c p bytes (Some id) = BufferText shape accepted text 0 bytes (reverse (contents (held c id p)))
  IsHeldText c p bytes None = bytes ≡ []

  -- the text of the speculation that is open at the slot (IsOpenAt)
  abbrev pub IsBlockAt : ℕ → ℕ → List Deed → List ℕ → Type 0
  IsBlockAt c slot p bytes = (o : Option Speculation) → IsOpenAt c slot p o → IsHeldText c p bytes o
