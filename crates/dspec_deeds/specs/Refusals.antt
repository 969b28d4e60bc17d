-- Cited by calls. What a refused reservation in a CPU's principal buffer leaves.
use Rattle.std.specs.Prelude.{ℕ, ◌≡◌, true, false, List, ◌∷◌, Option}
use Rattle.dspec_deeds.specs.{FateKinds.is_commit, Legal.IsFitting, Legal.fits_principal, Own.contents, Own.full, Own.held, Words.Outside.Shape, Words.Outside.Piece, Words.Outside.block}
use Rattle.dspec_deeds.specs.{Words.Outside.Speculation, declared.config.Config.Config, declared.deed.DecideFate.DecideFate, declared.deed.Deed.Deed}

module _ (shape : ℕ → Option Shape) (k : Config) (c : ℕ) where
  -- where this deed asks for room for a piece that doesn't fit, the CPU's principal buffer has refused a reservation after it
  abbrev pub RefusalFills : List Deed → Deed → Type 0 → Piece → Type 0
  RefusalFills h d Reserves p = IsFitting shape k (d ∷ h) → Reserves → fits_principal shape k c p h ≡ false → full c (d ∷ h) ≡ true

  -- the same of a deed by which the CPU's block of a speculation is to be copied
  abbrev pub BlockRefusalFills : List Deed → Deed → Speculation → DecideFate → Type 0
  BlockRefusalFills h d id f = RefusalFills h d (is_commit f ≡ true) (block (contents (held c id h)))
