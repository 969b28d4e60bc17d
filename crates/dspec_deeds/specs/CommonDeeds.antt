-- Serves proofs. What the common part sees of deeds: all but whether a record or a block found room, and how many records there were.
use Rattle.std.specs.Prelude.{◌≡◌, List, [], ◌∷◌}
use Rattle.dspec_deeds.specs.declared.deed.{DecideFate.DecideFate, Deed.Deed, Deed.TheVariants.Trace, Deed.TheVariants.Speculate, Deed.TheVariants.Commit, Deed.TheVariants.Discard}
use Rattle.dspec_deeds.specs.declared.deed.{Deed.TheVariants.Settle, SpeculateFate.SpeculateFate, TraceFate.TraceFate}
use Rattle.dspec_deeds.specs.declared.deed.TraceFate.TheVariants as traced
use Rattle.dspec_deeds.specs.declared.deed.SpeculateFate.TheVariants as spoken
use Rattle.dspec_deeds.specs.declared.deed.DecideFate.TheVariants as decided

-- each fate as if all found room, and nothing was counted
abbrev pub common_traced : TraceFate → TraceFate
common_traced traced.Dropped = traced.Kept
common_traced f = f

abbrev pub common_spoken : SpeculateFate → SpeculateFate
common_spoken spoken.Dropped = spoken.Kept
common_spoken f = f

abbrev pub common_decided : DecideFate → DecideFate
common_decided (decided.Copied n) = decided.Copied 0
common_decided (decided.Lost n) = decided.Copied 0
common_decided (decided.Thrown n) = decided.Thrown 0
common_decided f = f

abbrev pub common_deed : Deed → Deed
common_deed (Trace c r f) = Trace c r (common_traced f)
common_deed (Speculate c id r f) = Speculate c id r (common_spoken f)
common_deed (Commit c id f) = Commit c id (common_decided f)
common_deed (Discard c id f) = Discard c id (common_decided f)
common_deed (Settle c id f) = Settle c id (common_decided f)
common_deed d = d

abbrev pub common_deeds : List Deed → List Deed
common_deeds [] = []
common_deeds (d ∷ h) = common_deed d ∷ common_deeds h

-- two deeds that differ in nothing else, and two lists of such deeds
abbrev pub IsSameInCommon : Deed → Deed → Type 0
IsSameInCommon d e = common_deed d ≡ common_deed e

abbrev pub AreSameInCommon : List Deed → List Deed → Type 0
AreSameInCommon g h = common_deeds g ≡ common_deeds h
