-- What a call tells by its answer comes in front of what its CPU's calls told before.
use Rattle.std.proofs.Common.{◌≡◌, ◌+◌, ◌*◌, ℕ, zero, suc, Bool, true, false, List, [], ◌∷◌, ◌++◌, length, refl, sym, ap, ◌∙◌, ⊎_elim, append_assoc, arith}
use Rattle.std.proofs.lemmas.Bool.Decides.{nat_tests}
use Rattle.dspec_cpu.specs.Words.{Speculation, SlotState, settled_fate, did, Did, is_stopped_opening, calling, known, Entered, EnteredIn, called, WithService, Goes, rests, steps, CallLeaves}
use Rattle.dspec_cpu.specs.Words.{config_of, number_in, seat_of, worn_of, OpensOne, Opens, is_worn_opening, Serves, SettledAfter, SettledSlots, shown_at, Buffers, Switches, never, looked}
use Rattle.dspec_cpu.specs.Words.{last_looked, of_slots, Opening, Served, Config, DecideFate, Deed, Settle, View}
use Rattle.dspec_cpu.specs.declared.parts.CpuParts.{CpuParts as Cpu}
use Rattle.dspec_cpu.proofs.Told.{opening_told, settles, settles_told}

-- steps of a seat put their deeds in front of its list
entered_own : {place : ℕ} (v w : View) (log ds : List Deed) → Entered place v log ds w → w.own ≡ ds ++ v.own
entered_own v w log ds e = ap (λ (x : View). x.own) e.view

step_own : {place : ℕ} (v w : View) (log ds : List Deed) → EnteredIn place v log ds w → w.own ≡ ds ++ v.own
step_own v w log ds e = ⊎_elim (λ h. entered_own v w log ds h) (λ h. entered_own (calling h.0.op v) w log ds h.2) e

pub goes_own : {v w : View} {ds : List Deed} → Goes v ds w → w.own ≡ ds ++ v.own
goes_own rests = refl
goes_own {v = v} (steps {u = u} {ds = es} w new all log h f e q) =
    step_own u w log new e ∙ (ap (λ l. new ++ l) (goes_own h) ∙ (sym (append_assoc new es v.own) ∙ ap (λ l. l ++ v.own) (sym q)))

module _ {S : Type 0} (has : Cpu S → List Deed → Type 0) (old new : Cpu S) (same : number_in new ≡ number_in old) where
  -- a call with these deeds did this, and was worn or wasn't
  tells : (new_done : List Did) (worn : ℕ) (ds : List Deed) → (known (seat_of new)).own ≡ ds ++ (known (seat_of old)).own → worn_of new ≡ worn
      → ((p : List Deed) → did (number_in old) (ds ++ p) ≡ new_done ++ did (number_in old) p) → called new ≡ record { done = new_done ++ (called old).done; worn = worn }
  tells new_done worn ds own w is = grind (arith, nat_tests)

  pub opens_one : (a : Opening) → CallLeaves (is_worn_opening a) (is_stopped_opening a) (1 + 2 * (config_of old).nspec) (of_slots (last_looked (config_of old).nspec a)) old new
      → Opens (config_of old) (number_in old) a (has old) (known (seat_of old)) (has new) (known (seat_of new)) → OpensOne has a old new
  opens_one a k o = record { tells = tells [] _ _ (goes_own o.did) k.wears (opening_told (number_in old) o.missed a); leaves = k; opens = o }

-- settlements, one after the other
settles_append : (c : ℕ) (ss ts : List (Speculation × DecideFate)) → settles c (ss ++ ts) ≡ settles c ss ++ settles c ts
settles_append c [] ts = refl
settles_append c (s ∷ ss) ts = ap (λ ds. Settle c s.0 s.1 ∷ ds) (settles_append c ss ts)

settles_length : (c : ℕ) (ss : List (Speculation × DecideFate)) → length (settles c ss) ≡ length ss
settles_length c [] = refl
settles_length c (s ∷ ss) = omega (arith, settles_length c ss)

settled_after : (hit : Bool) (c slot : ℕ) (shown : SlotState) (v w : View) (ds : List Deed) → SettledAfter hit c slot shown v ds w
    → (ss : List (Speculation × DecideFate)) × (ds ≡ settles c ss)
settled_after true c slot shown v w ds s = ((shown_at slot shown, settled_fate shown.code s.0.fits s.0.count) ∷ [], s.2)
settled_after false c slot shown v w ds s = ([], s.0)

settled_slots : (c : ℕ) (v w : View) (n : ℕ) (ds : List Deed) → SettledSlots c v n ds w → (ss : List (Speculation × DecideFate)) × (ds ≡ settles c ss)
settled_slots c v w zero ds s = ([], s.0)
settled_slots c v w (suc n) ds s =
    let here = settled_after s.2 c (suc n) s.5.shown s.5.loaded w s.3 s.5.after in
    let before = settled_slots c v s.1 n s.0 s.4 in
    (here.0 ++ before.0, s.6 ∙ ((λ i. here.1 i ++ before.1 i) ∙ sym (settles_append c here.0 before.0)))

-- a switch enters no deed
switch_own : (k : Config) (c : ℕ) (v : View) (x : Buffers) (b : Bool) (w : View) (y : Buffers) → Switches k c v x b w y → w.own ≡ v.own
switch_own k c v x b w y (never f) = refl
switch_own k c v x b w y (looked f e left h ask z l s u g) = ap (λ (a : View). a.own) l.3

pub service_tells : {S : Type 0} (has : Cpu S → List Deed → Type 0) (old new : Cpu S) (k : Config) (had has_now : List Deed → Type 0) (x y : Buffers) (a : Served)
    → number_in new ≡ number_in old → Serves k (number_in old) a had (known (seat_of old)) x has_now (known (seat_of new)) y → worn_of new ≡ worn_of old
    → WithService a (called old) (called new)
service_tells has old new k had has_now x y a same s w = grind (arith, nat_tests, settled_slots, goes_own, switch_own, settles_length, tells, settles_told)
