-- What the close makes of a machine, slot by slot.
use Rattle.std.proofs.Common.{arith, ◌≡◌, ◌≢◌, ℕ, ◌+◌, ◌<◌, List, [], ◌∷◌, Option, if◌then◌else◌, refl, sym, ap, ◌∙◌, subst, add-one}
use Rattle.std.proofs.lemmas.Bool.Decides.{nat_tests}
use Rattle.std.specs.Prelude.{Result, Ok, Err, OnOk}
use Rattle.dspec_core.specs.Words.{Shape, Piece, Speculation, settle_at, SlotState, present, word_at, IsSlot, PlayState, CanClose, is_granted, closed_slot, closed_slots, closed_cpus, IsClosable}
use Rattle.dspec_core.specs.Words.{ClosesTo, IsShownMachine, Adds, history, state_of, settle_fate, start_fault, Act, Void, Granted, Attempt, Idle, Code, Config, DecideFate, Deed, Settle}
use Rattle.dspec_core.specs.declared.machine.Machine.{Machine}
use Rattle.dspec_interleaving.proofs.Closing.{slot_settles}
use Rattle.dspec_core.proofs.SlotReads.{ShowsSlot, row_read}

-- a settlement is entered where the table grants it
unless_granted : (act : Act) (xs ys : List Deed) → act ≢ Granted → (if is_granted act then xs else ys) ≡ ys
unless_granted Void xs ys bare = refl
unless_granted Granted xs ys bare = absurd (bare refl)
unless_granted (Attempt to) xs ys bare = refl
unless_granted Idle xs ys bare = refl

module _ {c s : ℕ} {h : List Deed} {w : SlotState} {a : ℕ} (shows : ShowsSlot c s h w a) where
  -- the identifier that the word names
  pub named_present : {n : ℕ} {id : Speculation} → id ≡ record { issue = n; slot = s } → n ≡ w.issue → id ≡ present s h
  named_present made issued = grind (arith, nat_tests)

  module _ (shape : ℕ → Option Shape) (k : Config) {act : Act} (acts : act ≡ settle_at w a) where
    -- what the close enters for a slot that waits
    abbrev due : List Deed
    due = Settle c (present s h) (settle_fate shape k c h (present s h) (word_at s h).code) ∷ h

    -- what the close makes of the list, by the row of the table
    by_row : closed_slot shape k c s h ≡ (if is_granted act then due else h)
    by_row = ap (λ (x : Act). if is_granted x then due else h) (sym (row_read shows acts))

    pub none_due : act ≢ Granted → closed_slot shape k c s h ≡ h
    none_due bare = by_row ∙ unless_granted act due h bare

    pub one_due : {n : ℕ} {id : Speculation} {code : Code} {fate : DecideFate} → act ≡ Granted → id ≡ record { issue = n; slot = s } → n ≡ w.issue → code ≡ w.code
        → fate ≡ settle_fate shape k c h id code → Settle c id fate ∷ h ≡ closed_slot shape k c s h
    one_due {fate = fate} granted made issued coded fated =
        let is_id = named_present made issued in
        let is_code = coded ∙ ap (λ (x : SlotState). x.code) shows.word in
        let is_fate : fate ≡ settle_fate shape k c h (present s h) (word_at s h).code = fated ∙ (λ i. settle_fate shape k c h (is_id i) (is_code i)) in
        (λ i. Settle c (is_id i) (is_fate i) ∷ h) ∙ sym (by_row ∙ ap (λ (x : Act). if is_granted x then due else h) granted)

module _ (shape : ℕ → Option Shape) (k : Config) (c : ℕ) (h : List Deed) where
  -- a slot more
  pub slots_more : (s : ℕ) → closed_slots shape k c (s + 1) h ≡ closed_slot shape k c (s + 1) (closed_slots shape k c s h)
  slots_more s = ap (λ n. closed_slots shape k c n h) (add-one s) ∙ ap (λ n. closed_slot shape k c n (closed_slots shape k c s h)) (sym (add-one s))

  -- a CPU more
  pub cpus_more : closed_cpus shape k (c + 1) h ≡ closed_slots shape k c k.nspec (closed_cpus shape k c h)
  cpus_more = ap (λ n. closed_cpus shape k n h) (add-one c)

module _ {S B : Type 0} {has : B → S → List Piece → Type 0} {capacity : B → ℕ} {shape_of : S → ℕ → Option Shape} {m : Machine S B} where
  -- a stretch of the close more
  pub closes_further : (step : (ℕ → Option Shape) → Config → List Deed → List Deed) {n left : Machine S B} {g f : List Deed} → ClosesTo has capacity shape_of m n g
      → ClosesTo has capacity shape_of n left (step (shape_of n.schema) n.config (history n)) → f ≡ step (shape_of m.schema) m.config g → ClosesTo has capacity shape_of m left f
  closes_further step is more e = grind (arith, nat_tests)

  module _ (can : IsClosable has capacity shape_of m) (c s : ℕ) (lt : c < m.config.cpus) (slot : IsSlot m.config s) where
    -- the list once the slot is closed
    abbrev closed : List Deed
    closed = closed_slot (shape_of m.schema) m.config c s (history m)

    pub closes_still : CanClose (shape_of m.schema) m.config closed
    closes_still = (slot_settles (shape_of m.schema) m.config can.fine c s (history m) can.can_close lt slot).0.rest

    -- nothing is settled
    pub closes_bare : closed ≡ history m → ClosesTo has capacity shape_of m m closed
    closes_bare e = record { closable = can; settled = ap (λ ds. record (state_of m) { deeds = ds }) (sym e); schema = refl }

    -- the settlement that is due is entered
    pub closes_settled : {T E : Type 0} (r : Result T E) (n : Machine S B) {d : Deed} → d ∷ history m ≡ closed → OnOk r (IsShownMachine has capacity n) → OnOk r (Adds (d ∷ []) m n)
        → OnOk r (ClosesTo has capacity shape_of m n closed)
    closes_settled (Ok x) n e shown adds =
        let state : state_of n ≡ record (state_of m) { deeds = closed } = adds.state ∙ ap (λ ds. record (state_of m) { deeds = ds }) e in
        record {
          closable = record {
            shown = shown;
            fine = ap (λ (st : PlayState). start_fault st.config) state ∙ can.fine;
            can_close = subst (λ (x : S). CanClose (shape_of x) n.config (history n)) (sym adds.schema)
                (subst (λ (st : PlayState). CanClose (shape_of m.schema) st.config st.deeds) (sym state) closes_still);
          };
          settled = state;
          schema = adds.schema;
        }
    closes_settled (Err x) n e shown adds = shown
