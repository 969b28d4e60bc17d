-- Cited by calls. What becomes of a CPU's own buffer of a speculation once that is decided.
use Rattle.std.specs.Prelude.{ℕ, Bool, List, length, if◌then◌else◌, Option}
use Rattle.dspec_deeds.specs.{Legal.fits_principal, Own.contents, Own.held, Words.Outside.Shape, Words.Outside.block, Words.Outside.Speculation, Words.Outside.Code, Words.Outside.Discarding}
use Rattle.dspec_deeds.specs.{declared.config.Config.Config, declared.deed.DecideFate.DecideFate, declared.deed.Deed.Deed}
use Rattle.dspec_deeds.specs.declared.deed.DecideFate.TheVariants as decided

-- a block of so many records, committed: copied whole where it fits, else lost whole
abbrev pub committed_fate : Bool → ℕ → DecideFate
committed_fate fits n = if fits then decided.Copied n else decided.Lost n

-- and settled, by the code of the word shown
abbrev pub settled_fate : Code → Bool → ℕ → DecideFate
settled_fate Discarding fits n = decided.Thrown n
settled_fate code fits n = committed_fate fits n

-- the same of what the CPU holds by the list
module _ (shape : ℕ → Option Shape) (k : Config) (c : ℕ) (h : List Deed) where
  abbrev pub fits_held : Speculation → Bool
  fits_held id = fits_principal shape k c (block (contents (held c id h))) h

  abbrev pub commit_fate : Speculation → DecideFate
  commit_fate id = committed_fate (fits_held id) (length (held c id h))

  abbrev pub discard_fate : Speculation → DecideFate
  discard_fate id = decided.Thrown (length (held c id h))

  abbrev pub settle_fate : Speculation → Code → DecideFate
  settle_fate id code = settled_fate code (fits_held id) (length (held c id h))
