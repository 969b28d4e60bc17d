-- The settlements of the close are those that each CPU owes by the list before it, CPU by CPU.
use Rattle.std.proofs.Common.{◌≡◌, ℕ, zero, suc, ◌<◌, ◌≤◌, Bool, true, false, not, ◌&&◌, if◌then◌else◌, List, ◌∷◌, ◌++◌, Option, None, refl, sym, ap, ◌∙◌, subst, ⊎_elim, true≢false, arith}
use Rattle.std.proofs.lemmas.Bool.Decides.{nat_tests}
use Rattle.std.specs.Prelude.{is_none, nat_le}
use Rattle.dspec_session_core.specs.Words.{Shape, Granted, Idle, awaits, Speculation, settle_at, CanClose, is_granted, closed_slot, closed_slots, closed_cpus, closing, verdict, is_undecided}
use Rattle.dspec_session_core.specs.Words.{is_busy, issue, present, owed, settled, solo, word_at, ack, IsSound, start_fault, settle_fate, owes_settlement, owed_fate, owed_more, owed_in, owed_up}
use Rattle.dspec_session_core.specs.Words.{settle_deeds, Config, DecideFate, Deed, Settle}
use Rattle.dspec_deeds.proofs.{Acked.ack_tells, Awaiting.awaits_is, PresentIds.decided_given, TestLemmas.either_way, TestLemmas.and_tells}
use Rattle.dspec_interleaving.proofs.Closing.{slots_settle, cpus_settle}

granted_is : (b : Bool) → is_granted (if b then Granted else Idle) ≡ b
granted_is true = refl
granted_is false = refl

not_tells : (b : Bool) → not b ≡ true → b ≡ false
not_tells true e = absurd (true≢false (sym e))
not_tells false e = refl

module _ (shape : ℕ → Option Shape) (k : Config) where
  -- a CPU settles in a slot exactly where it owes that
  owed_is : (c s : ℕ) (h : List Deed) → IsSound k h → owed h ≡ 0 → is_granted (settle_at (word_at s h) (ack c s h)) ≡ owes_settlement c s h
  owed_is c s h sound rests =
      granted_is (awaits (word_at s h).code && nat_le (ack c s h) (issue s h)) ∙ (λ i. awaits_is k s h sound rests i && ack_tells k c s h sound i)

  -- what the word's code says is what the decision says
  fate_said : (c s : ℕ) (h : List Deed) → IsSound k h → is_undecided (verdict (present s h) h) ≡ false
      → settle_fate shape k c h (present s h) (word_at s h).code ≡ owed_fate shape k c (present s h) h (verdict (present s h) h)
  fate_said c s h sound ruled = grind (arith, nat_tests, decided_given)

  slot_said : (c s : ℕ) (ss : List (Speculation × DecideFate)) (h : List Deed) → IsSound k (settle_deeds c ss ++ h) → owed (settle_deeds c ss ++ h) ≡ 0
      → settle_deeds c (owed_more shape k c s ss (settle_deeds c ss ++ h)) ++ h ≡ closed_slot shape k c s (settle_deeds c ss ++ h)
  slot_said c s ss h sound rests =
      let g = settle_deeds c ss ++ h in
      let id = present s g in
      let said = owed_fate shape k c id g (verdict id g) in
      let done = settle_fate shape k c g id (word_at s g).code in
      let same = owed_is c s g sound rests in
      ⊎_elim
      (λ (t : owes_settlement c s g ≡ true).
      let both = and_tells (is_busy s g && is_none (solo id g)) (not (settled c id g)) t in
      let busy = and_tells (is_busy s g) (is_none (solo id g)) both.0 in
      let ruled : is_undecided (verdict id g) ≡ false = not_tells (is_undecided (verdict id g)) busy.0 in
      ap (λ b. settle_deeds c (if b then (id, said) ∷ ss else ss) ++ h) t
      ∙ (ap (λ x. Settle c id x ∷ g) (sym (fate_said c s g sound ruled))
      ∙ sym (ap (λ b. if b then Settle c id done ∷ g else g) (same ∙ t))))
      (λ (f : owes_settlement c s g ≡ false).
      ap (λ b. settle_deeds c (if b then (id, said) ∷ ss else ss) ++ h) f
      ∙ sym (ap (λ b. if b then Settle c id done ∷ g else g) (same ∙ f)))
      (either_way (owes_settlement c s g))

  module _ (fine : start_fault k ≡ None) where
    slots_said : (c n : ℕ) (h : List Deed) → CanClose shape k h → c < k.cpus → n ≤ k.nspec
        → settle_deeds c (owed_in shape k c n h) ++ h ≡ closed_slots shape k c n h
    slots_said c zero h rest lt most = refl
    slots_said c (suc n) h rest lt most =
        let before = slots_said c n h rest lt (omega arith) in
        let settle = slots_settle shape k fine c n h rest lt (omega arith) in
        let can : CanClose shape k (settle_deeds c (owed_in shape k c n h) ++ h) = subst (CanClose shape k) (sym before) settle.0.rest in
        slot_said c (suc n) (owed_in shape k c n h) h can.legal.0 can.rests ∙ ap (closed_slot shape k c (suc n)) before

    cpus_said : (n : ℕ) (h : List Deed) → CanClose shape k h → n ≤ k.cpus → owed_up shape k n h ≡ closed_cpus shape k n h
    cpus_said zero h rest most = refl
    cpus_said (suc n) h rest most =
        let before = cpus_said n h rest (omega arith) in
        let settle = cpus_settle shape k fine n h rest (omega arith) in
        let can : CanClose shape k (owed_up shape k n h) = subst (CanClose shape k) (sym before) settle.0.rest in
        slots_said n k.nspec (owed_up shape k n h) can (omega arith) (omega arith) ∙ ap (closed_slots shape k n k.nspec) before

    pub closing_owed : (h : List Deed) → CanClose shape k h → closing shape k h ≡ owed_up shape k k.cpus h
    closing_owed h rest = sym (cpus_said k.cpus h rest (omega arith))
