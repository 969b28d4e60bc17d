-- The tail of a ring passes one place more.
use Rattle.std.proofs.Common.{◌≡◌, ℕ, ◌+◌, ◌-◌, ◌<◌, ◌≤◌, Bool, true, false, List, [], ◌∷◌, length, take, drop, cond, Some, zero, suc, refl, sym, ap, subst, ◌∙◌, arith, length-drop, below_more}
use Rattle.std.proofs.lemmas.{List.drop-drop, List.Sums.sum_by-take-drop, Option.same_Some}
use Rattle.std.specs.{List.AllByRecursion, Prelude.slice_get}
use Rattle.dspec_parking.specs.Words.{FitsBeside, ParkingPlace, ParkingRing, is_standing, standing_in, used_bytes, without_oldest, CanHold, IsOld, OldestIsOld, PassesOldest, none_passed, one_more}
use Rattle.dspec_parking.specs.declared.passed_places.PassedPlaces.{PassedPlaces}

counts_one : (stood : Bool) (gone : PassedPlaces) → (one_more stood gone).blocks ≡ gone.blocks + cond stood 1 0
counts_one true gone = refl
counts_one false gone = let none : gone.blocks ≡ gone.blocks + 0 = omega arith in none

pub none_gone : (ring : ParkingRing) → PassesOldest none_passed ring ring
none_gone ring = record { ring = refl; within = omega arith; blocks = refl }

pub one_gone : (gone : PassedPlaces) (first ring next : ParkingRing) (stood : Bool) → PassesOldest gone first ring → 0 < length ring.places → next ≡ without_oldest 1 ring
    → standing_in ring.places ≡ cond stood 1 0 + standing_in next.places → PassesOldest (one_more stood gone) first next
one_gone gone first ring next stood passes some is counted =
    let k = gone.places in
    let ps = first.places in
    let left : ring.places ≡ drop k ps = ap (λ (r : ParkingRing). r.places) passes.ring in
    let many : length ring.places ≡ length ps - k = ap length left ∙ length-drop k ps in
    let after : next ≡ without_oldest (k + 1) first =
    is ∙ ap (without_oldest 1) passes.ring ∙ ap (λ (l : List ParkingPlace). record first { places = l }) (drop-drop 1 k ps) in
    let rest : standing_in next.places ≡ standing_in (drop (k + 1) ps) = ap (λ (r : ParkingRing). standing_in r.places) after in
    let before : standing_in ring.places ≡ standing_in (drop k ps) = ap standing_in left in
    let cut : standing_in (take k ps) + standing_in (drop k ps) ≡ standing_in ps = sum_by-take-drop (λ (p : ParkingPlace). cond (is_standing p) 1 0) ps k in
    let cut_more : standing_in (take (k + 1) ps) + standing_in (drop (k + 1) ps) ≡ standing_in ps = sum_by-take-drop (λ (p : ParkingPlace). cond (is_standing p) 1 0) ps (k + 1) in
    let gone_blocks : gone.blocks ≡ standing_in (take k ps) = passes.blocks in
    let told : gone.blocks + cond stood 1 0 ≡ standing_in (take (k + 1) ps) = omega arith in
    record { ring = after; within = omega arith; blocks = counts_one stood gone ∙ told }

-- there is less room than an empty ring has: so something is there
some_there : (size most n : ℕ) (ps : List ParkingPlace) → n ≤ size → 0 < most → ((used_bytes ps + n ≤ size) × (length ps < most) → ⊥) → 0 < length ps
some_there size most n [] fits places lacks = absurd (lacks (let none : 0 + n ≤ size = omega arith in none, places))
some_there size most n (p ∷ ps) fits places lacks = omega arith

pub not_empty : (ring : ParkingRing) (n : ℕ) → CanHold ring n → (FitsBeside ring n → ⊥) → 0 < length ring.places
not_empty ring n can lacks = some_there ring.size ring.most n ring.places can.0 can.1 lacks

-- the fewest so far
pub no_room_before : (first ring : ParkingRing) (n k : ℕ) → ring ≡ without_oldest k first → ((j : ℕ) → j < k → FitsBeside (without_oldest j first) n → ⊥) → (FitsBeside ring n → ⊥)
    → (j : ℕ) → j < k + 1 → FitsBeside (without_oldest j first) n → ⊥
no_room_before first ring n k is before lacks =
    below_more (λ (j : ℕ). FitsBeside (without_oldest j first) n → ⊥) k before (subst (λ (r : ParkingRing). FitsBeside r n → ⊥) is lacks)

-- one that is old comes to those that were
old_next : (before k : ℕ) (ps : List ParkingPlace) (p : ParkingPlace) → AllByRecursion (IsOld before) (take k ps) → slice_get (drop k ps) 0 ≡ Some p → IsOld before p
    → AllByRecursion (IsOld before) (take (suc k) ps)
old_next before k [] p all is one = tt
old_next before zero (x ∷ ps) p all is one = (subst (IsOld before) (sym (same_Some x p is)) one, tt)
old_next before (suc k) (x ∷ ps) p all is one = (all.0, old_next before k ps p all.1 is one)

pub old_more : (before : ℕ) (gone : PassedPlaces) (first ring : ParkingRing) (stood : Bool) → PassesOldest gone first ring → AllByRecursion (IsOld before) (take gone.places first.places)
    → OldestIsOld before ring → AllByRecursion (IsOld before) (take (one_more stood gone).places first.places)
old_more before gone first ring stood passes all (p, is, one) =
    let left : ring.places ≡ drop gone.places first.places = ap (λ (r : ParkingRing). r.places) passes.ring in
    let at : slice_get (drop gone.places first.places) 0 ≡ Some p = ap (λ (l : List ParkingPlace). slice_get l 0) (sym left) ∙ is in
    let one_more_is : suc gone.places ≡ gone.places + 1 = omega arith in
    subst (λ (n : ℕ). AllByRecursion (IsOld before) (take n first.places)) one_more_is (old_next before gone.places first.places p all at one)
