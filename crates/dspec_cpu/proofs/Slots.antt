-- The slots of a scan.
use Rattle.std.proofs.Common.{◌≡◌, ◌≢◌, ℕ, ◌+◌, Bool, false, List, [], ◌∷◌, refl, sym, ap, ◌∙◌, subst, inl, arith}
use Rattle.std.proofs.lemmas.Bool.Decides.{nat_tests}
use Rattle.dspec_cpu.specs.Words.{SlotState, is_decided, open_at, of_cpu, number_of, slot_place, Entered, LoadedWord, OpenedWord, rests, steps, Stands, LookedAtSlot, IsGivenAt, look_deed, at_slot}
use Rattle.dspec_cpu.specs.Words.{at_word, at_exchange, nothing, Void, Attempt, Config, Deed, Miss, View, Doing}
use Rattle.dspec_cpu.specs.declared.scanning.Look.{Look}
use Rattle.dspec_deeds.specs.declared.calls.CpuOp.TheVariants as op
use Rattle.dspec_table.proofs.Flights.{flight_by_last, misses_slot, tries_slot}
use Rattle.dspec_cpu.specs.declared.scanning.Look.TheVariants as look
use Rattle.dspec_cpu.proofs.{Ready.stands_after, Touching.touched_more, Touching.touched_one}

abbrev pub asked : Doing
asked = record { op = op.Speculation; fits = false; count = 0; mine = false }

-- one deed more
pub stands_more : (k : Config) (c : ℕ) (v u w : View) (d : Deed) (ds : List Deed) → Stands k c v ds u → Stands k c u (d ∷ []) w → Stands k c v (d ∷ ds) w
stands_more k c v u w d ds a b = grind (arith, nat_tests, flight_by_last)

-- the table opens a slot or passes it
pub passes : (w : SlotState) (most : ℕ) → ((to : SlotState) → open_at w most ≢ Attempt to) → open_at w most ≡ Void
passes w most none = grind (arith, nat_tests)

module _ (k : Config) (c slot : ℕ) (v : View) (config : v.config ≡ k) (who : v.who ≡ of_cpu c) where
  -- the load showed a word that isn't free
  pub passed : (shown : SlotState) (b : Bool) (w : View) → LoadedWord asked slot v shown w → open_at shown k.max_issues ≡ Void → b ≡ is_decided shown.code → LookedAtSlot k c slot v (look.Missed b) w
  passed shown b w step void is =
      let deeds : at_word v.config (number_of v.who) asked slot shown op.Speculation ≡ Miss c slot b ∷ [] =
      misses_slot v.config (number_of v.who) asked slot shown (ap (λ (x : Config). open_at shown x.max_issues) config ∙ void)
      ∙ (ap (λ n. Miss n slot (is_decided shown.code) ∷ []) (ap number_of who) ∙ ap (λ x. Miss c slot x ∷ []) (sym is)) in
      let entered : Entered (slot_place slot) v step.0 (Miss c slot b ∷ []) w = subst (λ ds. Entered (slot_place slot) v step.0 ds w) deeds step.3 in
      let one : w.steps ≡ v.steps + 1 = ap (λ (x : View). x.steps) entered.view in
      record {
        goes = steps w (Miss c slot b ∷ []) (Miss c slot b ∷ []) step.0 rests step.1 (inl entered) refl;
        stands = stands_after k c v w step.0 (Miss c slot b ∷ []) config who entered;
        bounded = omega arith;
        touches = touched_one (at_slot slot) v w (slot_place slot) (ap (λ (x : View). x.touched) entered.view) refl;
        given = tt;
      }

  -- the exchange from a free word
  pub tried : (from to shown : SlotState) (hit : Bool) (u w : View) → LoadedWord asked slot v from u → open_at from k.max_issues ≡ Attempt to → OpenedWord slot u shown hit w
      → (x : Look) → at_exchange k c nothing slot shown hit op.Speculation ≡ look_deed c slot x ∷ [] → IsGivenAt slot x → LookedAtSlot k c slot v x w
  tried from to shown hit u w load free step x deed at =
      let none : at_word v.config (number_of v.who) asked slot from op.Speculation ≡ [] =
      tries_slot v.config (number_of v.who) asked slot from to (ap (λ (y : Config). open_at from y.max_issues) config ∙ free) in
      let first : Entered (slot_place slot) v load.0 [] u = subst (λ ds. Entered (slot_place slot) v load.0 ds u) none load.3 in
      let u_config : u.config ≡ k = ap (λ (y : View). y.config) first.view ∙ config in
      let u_who : u.who ≡ of_cpu c = ap (λ (y : View). y.who) first.view ∙ who in
      let entered : Entered (slot_place slot) u step.0 (look_deed c slot x ∷ []) w = subst (λ ds. Entered (slot_place slot) u step.0 ds w)
      ((λ i. at_exchange (u_config i) (number_of (u_who i)) nothing slot shown hit op.Speculation) ∙ deed) step.3 in
      let last = stands_after k c u w step.0 (look_deed c slot x ∷ []) u_config u_who entered in
      let one : u.steps ≡ v.steps + 1 = ap (λ (y : View). y.steps) first.view in
      let two : w.steps ≡ u.steps + 1 = ap (λ (y : View). y.steps) entered.view in
      record {
        goes = steps w (look_deed c slot x ∷ []) (look_deed c slot x ∷ []) step.0 (steps u [] [] load.0 rests load.1 (inl first) refl) step.1 (inl entered) refl;
        stands = stands_more k c v u w (look_deed c slot x) [] (stands_after k c v u load.0 [] config who first) last;
        bounded = omega arith;
        touches = touched_more (at_slot slot) v u w (slot_place slot) (touched_one (at_slot slot) v u (slot_place slot) (ap (λ (y : View). y.touched) first.view) refl)
            (ap (λ (y : View). y.touched) entered.view) refl;
        given = at;
      }
