-- The words that steps touch, one after the other.
use Rattle.std.proofs.Common.{◌≡◌, ℕ, zero, suc, ◌+◌, ◌≤◌, Bool, true, false, List, [], ◌∷◌, ◌++◌, get_or, refl, sym, ap, ◌∙◌, subst, inl, inr, arith, append_assoc}
use Rattle.std.proofs.lemmas.{Bool.Decides.nat_tests, List.Elements.All-nil, List.Elements.All-cons, List.Elements.All-append}
use Rattle.dspec_cpu.specs.Words.{SlotState, of_cpu, number_of, ack_place, slot_place, Serves, SettledAfter, SettledSlot, SettledSlots, Buffers, Switches, Touches, at_slot, of_service, of_slots}
use Rattle.dspec_cpu.specs.Words.{Config, Deed, Served, View}

pub none_touched : (within : ℕ → Type 0) (v : View) → Touches within v v
none_touched within v = record { places = []; touched = refl; all = All-nil within }

-- one step more
pub touched_more : (within : ℕ → Type 0) (v u w : View) (place : ℕ) → Touches within v u → w.touched ≡ place ∷ u.touched → within place → Touches within v w
touched_more within v u w place was is here = record {
  places = place ∷ was.places;
  touched = is ∙ ap (λ ps. place ∷ ps) was.touched;
  all = All-cons within place was.places here was.all;
}

pub touched_one : (within : ℕ → Type 0) (v w : View) (place : ℕ) → w.touched ≡ place ∷ v.touched → within place → Touches within v w
touched_one within v w place is here = touched_more within v v w place (none_touched within v) is here

-- steps after steps
pub touched_on : (within : ℕ → Type 0) (v u w : View) → Touches within v u → Touches within u w → Touches within v w
touched_on within v u w was more = record {
  places = more.places ++ was.places;
  touched = more.touched ∙ (ap (λ ps. more.places ++ ps) was.touched ∙ sym (append_assoc more.places was.places v.touched));
  all = All-append within more.places was.places more.all was.all;
}

pub touched_wider : (small large : ℕ → Type 0) (v w : View) → ((p : ℕ) → small p → large p) → Touches small v w → Touches large v w
touched_wider small large v w more t = record { places = t.places; touched = t.touched; all = λ i d lt. more (get_or t.places i d) (t.all i d lt) }

-- a scan's next slot
pub slot_touched : (n : ℕ) (v u w : View) → Touches (of_slots n) v u → Touches (at_slot (n + 1)) u w → Touches (of_slots (n + 1)) v w
slot_touched n v u w was here = touched_on (of_slots (n + 1)) v u w (touched_wider (of_slots n) (of_slots (n + 1)) v u up was)
    (touched_wider (at_slot (n + 1)) (of_slots (n + 1)) u w (λ p e. inr (n + 1, omega arith, omega arith, e)) here)
  where
    up : (p : ℕ) → of_slots n p → of_slots (n + 1) p
    up p (inl e) = inl e
    up p (inr (slot, one, le, e)) = inr (slot, one, omega arith, e)

-- steps of a service, after which the seat is the same CPU's
record ServesWithin (k : Config) (c : ℕ) (v w : View) : Type 0 where
  pub touches : Touches (of_service k c) v w
  pub config : w.config ≡ k
  pub who : w.who ≡ of_cpu c

none_served : (k : Config) (c : ℕ) (v : View) → v.config ≡ k → v.who ≡ of_cpu c → ServesWithin k c v v
none_served k c v config who = record { touches = none_touched (of_service k c) v; config = config; who = who }

slot_loaded : (k : Config) (c slot : ℕ) (v : View) (hit : Bool) (ds : List Deed) (w : View) → v.config ≡ k → v.who ≡ of_cpu c → 1 ≤ slot → slot ≤ k.nspec
    → (done : SettledSlot c slot v hit ds w) → ServesWithin k c v done.loaded
slot_loaded k c slot v hit ds w config who one most done =
    let view = done.load.3.view in
    record {
      touches = touched_one (of_service k c) v done.loaded (slot_place slot) (ap (λ (x : View). x.touched) view) (inr (slot, one, most, inl refl));
      config = ap (λ (x : View). x.config) view ∙ config;
      who = ap (λ (x : View). x.who) view ∙ who;
    }

slot_settled : (k : Config) (c slot : ℕ) (shown : SlotState) (v u : View) (ds : List Deed) (w : View) → 1 ≤ slot → slot ≤ k.nspec → ServesWithin k c v u
    → (hit : Bool) → SettledAfter hit c slot shown u ds w → ServesWithin k c v w
slot_settled k c slot shown v u ds w one most was false after = subst (λ x. ServesWithin k c v x) after.1 was
slot_settled k c slot shown v u ds w one most was true after =
    let view = after.3.2.view in
    let place : ack_place u.config (number_of u.who) slot ≡ ack_place k c slot = λ i. ack_place (was.config i) (number_of (was.who i)) slot in
    record {
      touches = touched_more (of_service k c) v u w (ack_place u.config (number_of u.who) slot) was.touches (ap (λ (x : View). x.touched) view) (inr (slot, one, most, inr place));
      config = ap (λ (x : View). x.config) view ∙ was.config;
      who = ap (λ (x : View). x.who) view ∙ was.who;
    }

slots_served : (k : Config) (c : ℕ) (v : View) (n : ℕ) (ds : List Deed) (w : View) → v.config ≡ k → v.who ≡ of_cpu c → n ≤ k.nspec → SettledSlots c v n ds w → ServesWithin k c v w
slots_served k c v zero ds w config who most done = subst (λ x. ServesWithin k c v x) done.1 (none_served k c v config who)
slots_served k c v (suc n) ds w config who most done =
    let was = slots_served k c v n done.0 done.1 config who (omega arith) done.4 in
    let one : 1 ≤ suc n = omega arith in
    let load = slot_loaded k c (suc n) done.1 done.2 done.3 w was.config was.who one most done.5 in
    let now = slot_settled k c (suc n) done.5.shown done.1 done.5.loaded done.3 w one most load done.2 done.5.after in
    record { touches = touched_on (of_service k c) v done.1 w was.touches now.touches; config = now.config; who = now.who }

switch_served : (k : Config) (c : ℕ) (v : View) (x : Buffers) (sealed : Bool) (w : View) (y : Buffers) → v.config ≡ k → v.who ≡ of_cpu c → Switches k c v x sealed w y → ServesWithin k c v w
switch_served = grind (arith, nat_tests, none_served, touched_one)

pub service_touches : (k : Config) (c : ℕ) (a : Served) (had : List Deed → Type 0) (v : View) (x : Buffers) (has : List Deed → Type 0) (w : View) (y : Buffers) → v.config ≡ k → v.who ≡ of_cpu c
    → Serves k c a had v x has w y → Touches (of_service k c) v w
service_touches k c a had v x has w y config who done = grind (arith, nat_tests, switch_served, slots_served, touched_on)
