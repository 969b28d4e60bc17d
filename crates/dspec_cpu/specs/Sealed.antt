-- Believed. The batches that a CPU's own list seals.
use Rattle.std.specs.Prelude.{ℕ, ◌≡◌, Bool, List, [], ◌∷◌, Option, Some, None}
use Rattle.dspec_cpu.specs.Words.Outside.{Record, Piece, Stored, HasPieces, active, growing, Shape, Batch, Config, Deed, Seal}
use Rattle.dspec_cpu_state.specs.CpuStates as CpuStates

module _ (shape : ℕ → Option Shape) (accepted : Record → Bool) (text : Record → List ℕ) where
  -- a buffer of that size has these pieces
  abbrev pub HasSized : ℕ → List Piece → Stored → Type 0
  HasSized = CpuStates.IsFilledWith (λ b. HasPieces shape accepted text b) (λ b. b.size)

  -- a batch that was sealed after the list: its buffer has the pieces that were in the active buffer then
  pub record IsSealed (k : Config) (c : ℕ) (p : List Deed) (b : Batch) : Type 0 where
    pub of_cpu : b.cpu ≡ c
    pub drops : b.drops ≡ (growing c p).drops
    pub buffer : HasSized k.bufsize (active c p) b.buffer

  -- these batches, the latest first, are those that the list seals
  abbrev pub AreSealed : Config → ℕ → List Deed → List Batch → Type 0
  AreSealed k c [] bs = bs ≡ []
  AreSealed k c (Seal a ∷ p) bs = (b : Batch) × (rest : List Batch) × (bs ≡ b ∷ rest) × IsSealed k c p b × AreSealed k c p rest
  AreSealed k c (d ∷ p) bs = AreSealed k c p bs

-- a batch whose hand-over was refused
abbrev pub waiting : Option Batch → List Batch
waiting None = []
waiting (Some b) = b ∷ []
