-- What tests on holders tell.
use Rattle.std.proofs.Common.{◌≡◌, true, if◌then◌else◌, List, ◌∷◌, Some, None, refl, ap}
use Rattle.dspec_table.specs.Words.{Deed, Holder, same_holder, doer, part_of}
use Rattle.dspec_deeds.proofs.TestLemmas.{same_actor_tells}

pub same_holder_tells : (v w : Holder) → same_holder v w ≡ true → v ≡ w
same_holder_tells None w e = absurd (cc (e))
same_holder_tells (Some a) None e = absurd (cc (e))
same_holder_tells (Some a) (Some b) e = ap (λ x. Some x) (same_actor_tells a b e)

pub part_next : (w : Holder) (d : Deed) (h : List Deed) → part_of w (d ∷ h) ≡ (if same_holder w (doer d h) then d ∷ part_of w h else part_of w h)
part_next None d h = refl
part_next (Some a) d h = refl
