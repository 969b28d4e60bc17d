-- The slots of a service, one after the other.
use Rattle.std.proofs.Common.{◌≡◌, ℕ, zero, suc, ◌+◌, ◌≤◌, Bool, true, false, List, [], ◌++◌, length, if◌then◌else◌, refl, sym, ap, subst, arith, append_assoc, length-append}
use Rattle.std.proofs.lemmas.Bool.Decides.{nat_tests}
use Rattle.dspec_cpu.specs.Words.{Deed, SlotState, rests, Settled, SettledAfter, SettledSlot, SettledSlots, SlotDone, View}
use Rattle.dspec_cpu.proofs.ReachDeeds.{goes_on}

-- one Settle where the slot was settled, and none where it was passed
here_count : (hit : Bool) (c slot : ℕ) (shown : SlotState) (u : View) (ds : List Deed) (w : View) → SettledAfter hit c slot shown u ds w → length ds ≡ (if hit then 1 else 0)
here_count true c slot shown u ds w b = ap length b.2
here_count false c slot shown u ds w b = ap length b.0

at_most_one : (hit : Bool) → ◌≤◌ (if hit then 1 else 0) 1
at_most_one true = omega arith
at_most_one false = omega arith

pub few_settles : (c : ℕ) (v : View) (n : ℕ) (ds : List Deed) (w : View) → SettledSlots c v n ds w → length ds ≤ n
few_settles c v zero ds w h = let e = ap length h.0 in omega arith
few_settles c v (suc n) ds w h = grind (arith, nat_tests, few_settles c v n h.0 h.1 h.4, here_count, at_most_one)

pub none_settled : (c : ℕ) (had : List Deed → Type 0) (v : View) → Settled c 0 0 had v had v
none_settled c had v = record { settles = []; slots = (refl, refl); number = refl; goes = rests; bounded = omega arith; list = λ p h. h }

-- one slot more
pub slot_more : (c n count : ℕ) (had mid has : List Deed → Type 0) (v u w : View) (hit : Bool) → Settled c n count had v mid u → SlotDone c (n + 1) hit mid u has w
    → Settled c (n + 1) (if hit then count + 1 else count) had v has w
slot_more c n count had mid has v u w hit was done =
    let here = done.settles in
    let before = was.settles in
    let e : suc n ≡ n + 1 = omega arith in
    let le = was.bounded in
    let two = done.bounded in
    let after = here_count hit c (n + 1) done.slot_is.shown done.slot_is.loaded here w done.slot_is.after in
    let all = length-append here before in
    let counted = was.number in
    record {
      settles = here ++ before;
      slots = subst (λ m. SettledSlots c v m (here ++ before) w) e (before, u, hit, here, was.slots, subst (λ m. SettledSlot c m u hit here w) (sym e) done.slot_is, refl);
      number = go hit after;
      goes = goes_on was.goes done.goes;
      bounded = omega arith;
      list = λ p h. subst has (sym (append_assoc here before p)) (done.list (before ++ p) (was.list p h));
    }
  where
    go : (b : Bool) → length done.settles ≡ (if b then 1 else 0) → (if b then count + 1 else count) ≡ length (done.settles ++ was.settles)
    go true one = let all = length-append done.settles was.settles in let counted = was.number in omega arith
    go false one = let all = length-append done.settles was.settles in let counted = was.number in omega arith
