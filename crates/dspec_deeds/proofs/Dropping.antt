-- What was dropped from a CPU's buffer of a speculation.
use Rattle.std.proofs.{Common.◌≡◌, Common.ℕ, Common.◌+◌, Common.◌≤◌, Common.false, Common.◌==◌, Common.List, Common.[], Common.◌∷◌, Common.refl, Common.arith, lemmas.Bool.Decides.nat_tests}
use Rattle.dspec_deeds.specs.{Words.Speculation, Words.mark, Words.calls, Words.dropped_in, declared.deed.Deed.Deed, declared.deed.Deed.TheVariants.Speculate}

-- nothing was dropped of a speculation that isn't the one granted last of its slot
pub unmarked_drops : (c : ℕ) (id : Speculation) (h : List Deed) → (mark c id.slot h == id.issue + 1) ≡ false → dropped_in c id h ≡ 0
unmarked_drops c id [] e = refl
unmarked_drops c id (Speculate a j r f ∷ h) e = grind (arith, nat_tests, unmarked_drops c id h)
unmarked_drops c id (d ∷ h) e = unmarked_drops c id h e

-- each is of a call
pub dropped_called : (c : ℕ) (id : Speculation) (h : List Deed) → dropped_in c id h ≤ calls c h
dropped_called c id [] = omega arith
dropped_called c id (Speculate a j r f ∷ h) = grind (arith, nat_tests, dropped_called c id h)
dropped_called c id (d ∷ h) = let le = dropped_called c id h in omega arith
