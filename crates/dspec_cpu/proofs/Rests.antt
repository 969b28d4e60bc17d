-- One slot that what is left of a CPU settles by the last words.
use Rattle.std.proofs.Common.{◌≡◌, ℕ, ◌<◌, ◌≤◌, ◌^◌, Bool, true, false, List, ◌∷◌, Option, if◌then◌else◌, refl, sym, ap, ◌∙◌, subst, arith}
use Rattle.std.proofs.lemmas.Bool.Decides.{nat_tests}
use Rattle.dspec_cpu.specs.Words.{Record, settle_at, SlotState, CanBeReleased, word_number, is_granted, ack, word_at, settle_fate, Stored, own_closed_slot, last_set_up, last_words, Shows}
use Rattle.dspec_cpu.specs.Words.{parts_of_side, AreShown, AreItsWords, CanCloseAfter, RestHasList, batches_of_rest, CanSettle, shown_at, Shape, Batch, Act, Granted, Config, Deed, Settle, LastWords}
use Rattle.dspec_cpu.specs.Words.{CpuState}
use Rattle.dspec_cpu.specs.declared.rest.CpuRest.{CpuRest}
use Rattle.dspec_cpu.proofs.Settlements.{can_settle}

limit_of : (w : SlotState) → word_number w ≤ 2 ^ 60 → CanBeReleased w
limit_of w small = grind (arith, nat_tests)

module _ (shape : ℕ → Option Shape) (accepted : Record → Bool) (text : Record → List ℕ) {S : Type 0} (rest : CpuRest S) (last : LastWords)
    (its : AreItsWords last rest.config rest.cpu) (slot : ℕ) (low : 1 ≤ slot) (high : slot ≤ rest.config.nspec)
    (word : SlotState) (word_is : (log : List Deed) → Shows (last_set_up last) (last_words last) log → word ≡ word_at slot log) where
  shows_last : (log : List Deed) → Shows rest.config (last_words last) log → Shows (last_set_up last) (last_words last) log
  shows_last log sh = subst (λ (k : Config). Shows k (last_words last) log) (sym its.set_up) sh

  -- its word is below the last one
  pub released : (log now p : List Deed) → CanCloseAfter rest.config rest.cpu slot (last_words last) log now p → CanBeReleased word
  released log now p closes = grind (arith, nat_tests, shows_last, limit_of)

  module _ (a : ℕ) (a_is : (log : List Deed) → Shows (last_set_up last) (last_words last) log → a ≡ ack rest.cpu slot log) where
    acked : (log now p : List Deed) → CanCloseAfter rest.config rest.cpu slot (last_words last) log now p → settle_at word a ≡ settle_at word (ack rest.cpu slot p)
    acked log now p closes = ap (settle_at word) (a_is log (shows_last log closes.shows) ∙ sym closes.ack)

    -- where the slot isn't to be settled the list stays as it is
    pub unsettled : (x : Act) → x ≡ settle_at word a → (x ≡ Granted → ⊥) → (handed : List Batch) (log now p : List Deed) → RestHasList shape accepted text rest handed p
        → CanCloseAfter rest.config rest.cpu slot (last_words last) log now p
        → RestHasList shape accepted text rest handed (own_closed_slot shape rest.config (λ s. word_at s log) rest.cpu slot p)
    unsettled x is other handed log now p had closes =
        let next : SlotState → List Deed = λ w. if is_granted (settle_at w (ack rest.cpu slot p)) then Settle rest.cpu (shown_at slot w)
        (settle_fate shape rest.config rest.cpu p (shown_at slot w) w.code) ∷ p else p in
        let none : is_granted (settle_at word (ack rest.cpu slot p)) ≡ false = sym (ap is_granted (is ∙ acked log now p closes)) ∙ ungranted x other in
        subst (λ w. RestHasList shape accepted text rest handed (next w)) (word_is log (shows_last log closes.shows))
        (subst (λ b. RestHasList shape accepted text rest handed
        (if b then Settle rest.cpu (shown_at slot word) (settle_fate shape rest.config rest.cpu p (shown_at slot word) word.code) ∷ p else p)) (sym none) had)
      where
        ungranted : (y : Act) → (y ≡ Granted → ⊥) → is_granted y ≡ false
        ungranted Granted never = absurd (never refl)
        ungranted y never = refl

    module _ (grants : is_granted (settle_at word a) ≡ true) (small : rest.side.calls < 2 ^ 64) where
      granted : (log now p : List Deed) → CanCloseAfter rest.config rest.cpu slot (last_words last) log now p → is_granted (settle_at word (ack rest.cpu slot p)) ≡ true
      granted log now p closes = sym (ap is_granted (acked log now p closes)) ∙ grants

      pub can : (handed : List Batch) (log now p : List Deed) → RestHasList shape accepted text rest handed p → CanCloseAfter rest.config rest.cpu slot (last_words last) log now p
          → CanSettle shape accepted text rest.config rest.cpu rest.side (batches_of_rest rest handed) (shown_at slot word) word.code p
      can handed log now p had closes = can_settle shape rest.config rest.cpu now p closes.part_is slot word (closes.word ∙ sym (word_is log (shows_last log closes.shows))) (granted log now p closes)
          accepted text rest.side (batches_of_rest rest handed) had low high its.one small

      -- and the settlement is that of the close
      pub closed : (handed : List Batch) (log now p : List Deed) → CanCloseAfter rest.config rest.cpu slot (last_words last) log now p → (side : CpuState Stored)
          → AreShown shape accepted text rest.config rest.cpu (parts_of_side side) (batches_of_rest rest handed) side.counts
          (Settle rest.cpu (shown_at slot word) (settle_fate shape rest.config rest.cpu p (shown_at slot word) word.code) ∷ p)
          → AreShown shape accepted text rest.config rest.cpu (parts_of_side side) (batches_of_rest rest handed) side.counts (own_closed_slot shape rest.config (λ s. word_at s log) rest.cpu slot p)
      closed handed log now p closes side shown =
          let next : SlotState → List Deed = λ w. if is_granted (settle_at w (ack rest.cpu slot p)) then Settle rest.cpu (shown_at slot w)
          (settle_fate shape rest.config rest.cpu p (shown_at slot w) w.code) ∷ p else p in
          subst (λ w. AreShown shape accepted text rest.config rest.cpu (parts_of_side side) (batches_of_rest rest handed) side.counts (next w)) (word_is log (shows_last log closes.shows))
          (subst (λ b. AreShown shape accepted text rest.config rest.cpu (parts_of_side side) (batches_of_rest rest handed) side.counts
          (if b then Settle rest.cpu (shown_at slot word) (settle_fate shape rest.config rest.cpu p (shown_at slot word) word.code) ∷ p else p)) (sym (granted log now p closes)) shown)
