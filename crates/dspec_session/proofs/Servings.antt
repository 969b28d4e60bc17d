-- A call of service counts as no call, and offers nothing.
use Rattle.std.proofs.Common.{◌≡◌, ℕ, zero, suc, ◌+◌, Bool, true, false, List, ◌++◌, ◌∙◌, ap, arith, append_assoc}
use Rattle.dspec_session.specs.Words.{SlotState, offers, calls, SettledAfter, SettledSlots, with_seal, Deed, View}

-- a list reads as another, of offers and of calls
record ReadsAs (c : ℕ) (p q : List Deed) : Type 0 where
  pub offered : offers c p ≡ offers c q
  pub called : calls c p ≡ calls c q

both : (c : ℕ) (p q r : List Deed) → ReadsAs c p q → ReadsAs c q r → ReadsAs c p r
both c p q r a b = record { offered = a.offered ∙ b.offered; called = a.called ∙ b.called }

as_is : (c : ℕ) (p q : List Deed) → p ≡ q → ReadsAs c p q
as_is c p q e = record { offered = ap (offers c) e; called = ap (calls c) e }

one_slot : (hit : Bool) (c slot : ℕ) (shown : SlotState) (v w : View) (ds q : List Deed) → SettledAfter hit c slot shown v ds w → ReadsAs c (ds ++ q) q
one_slot false c slot shown v w ds q b = as_is c (ds ++ q) q (ap (λ l. l ++ q) b.0)
one_slot true c slot shown v w ds q (doing, op, is, settled) =
    both c (ds ++ q) _ q (as_is c (ds ++ q) _ (ap (λ l. l ++ q) is)) (record { offered = omega arith; called = omega arith })

all_slots : (n c : ℕ) (v w : View) (ds q : List Deed) → SettledSlots c v n ds w → ReadsAs c (ds ++ q) q
all_slots zero c v w ds q s = as_is c (ds ++ q) q (ap (λ l. l ++ q) s.0)
all_slots (suc n) c v w ds q (before, u, hit, here, slots, slot, is) =
    both c (ds ++ q) _ q (as_is c (ds ++ q) _ (ap (λ l. l ++ q) is ∙ append_assoc here before q))
    (both c (here ++ (before ++ q)) (before ++ q) q (one_slot hit c (suc n) slot.shown slot.loaded w here (before ++ q) slot.after) (all_slots n c v u before q slots))

seal_reads : (sealed : Bool) (c : ℕ) (p : List Deed) → ReadsAs c (with_seal sealed c p) p
seal_reads false c p = as_is c p p (λ i. p)
seal_reads true c p = record { offered = omega arith; called = omega arith }

pub service_reads : (n c : ℕ) (v w : View) (ds p : List Deed) (sealed : Bool) → SettledSlots c v n ds w
    → (offers c (ds ++ with_seal sealed c p) ≡ offers c p + 0) × (calls c (ds ++ with_seal sealed c p) ≡ calls c p)
service_reads n c v w ds p sealed s =
    let r = both c (ds ++ with_seal sealed c p) (with_seal sealed c p) p (all_slots n c v w ds (with_seal sealed c p) s) (seal_reads sealed c p) in
    let o = r.offered in (omega arith, r.called)
