-- Cited by calls. A list of deeds that goes on from another.
use Rattle.std.specs.Prelude.{◌≡◌, false, List, ◌∷◌}
use Rattle.dspec_table.specs.{Holders.Holder, Holders.same_holder, Holders.doer, Words.Outside.Deed}

-- the list goes on from what was seen by deeds of others than w
pub data Since (w : Holder) (seen : List Deed) : List Deed → Type 0 where
  here : Since w seen seen
  more : {d : Deed} {h : List Deed} → Since w seen h → same_holder w (doer d h) ≡ false → Since w seen (d ∷ h)
