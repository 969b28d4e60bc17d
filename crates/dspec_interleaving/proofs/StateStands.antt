-- A CPU's deeds leave the consumer's side standing.
use Rattle.std.proofs.Common.{◌≡◌, ℕ, ◌<◌, true, false, ◌==◌, ◌||◌, List, ◌∷◌, ◌++◌, Option, Some, None, refl, sym, ap, ◌∙◌, subst, ⊎_elim, true≢false}
use Rattle.dspec_interleaving.specs.Words.{Shape, SlotState, same_actor, author, releaser, releases, present, opened, verdict, is_undecided, solo, settled, owed, word_at, opens, IsSound}
use Rattle.dspec_interleaving.specs.Words.{SettledBelow, StandsConsumer, StandsState, Config, Cpu, Deed, Release}
use Rattle.dspec_interleaving.specs.declared.flight.{ConsumerFlight.ConsumerFlight, ConsumerProgress.ConsumerProgress}
use Rattle.dspec_interleaving.specs.declared.flight.ConsumerFlight.TheVariants as consumer
use Rattle.dspec_deeds.proofs.{Acked.settled_stays, Awaiting.awaiting, Going.GoesOn, StayingDecided.decided_stands, TestLemmas.either_way, TestLemmas.same_number, TestLemmas.or_true}
use Rattle.dspec_interleaving.proofs.OthersStand.{over, sound_below}

-- a decided slot that no CPU decided alone, and which CPUs have settled it
record IsDue (n s : ℕ) (w : SlotState) (h : List Deed) : Type 0 where
  given : opened (present s h) h ≡ true
  ruled : is_undecided (verdict (present s h) h) ≡ false
  alone : solo (present s h) h ≡ None
  shown : word_at s h ≡ w
  below : (c : ℕ) → c < n → settled c (present s h) h ≡ true

-- a CPU releases only what it decided alone
unreleased_by : (a s : ℕ) (d : Deed) (h : List Deed) → same_actor (Cpu a) (author d h) ≡ true → solo (present s h) h ≡ None → releases s d ≡ false
unreleased_by a s (Release n) h by alone = ⊎_elim
    (λ (t : (s == n) ≡ true). absurd (true≢false (sym by ∙ ap (λ o. same_actor (Cpu a) (releaser o)) (subst (λ x. solo (present x h) h ≡ None) (same_number s n t) alone))))
    (λ f. f)
    (either_way (s == n))
unreleased_by a s d h by alone = refl

due_stays : (k : Config) (a n s : ℕ) (w : SlotState) (d : Deed) (h : List Deed) → IsSound k (d ∷ h) → same_actor (Cpu a) (author d h) ≡ true → IsDue n s w h → IsDue n s w (d ∷ h)
due_stays k a n s w d h sound by was =
    let id = present s h in
    let stands = decided_stands k s d h sound was.given was.ruled (unreleased_by a s d h by was.alone) in
    let p : present s (d ∷ h) ≡ id = λ i. record { issue = stands.issues i; slot = s } in
    record {
      given = subst (λ j. opened j (d ∷ h) ≡ true) (sym p) (ap (λ b. opens id d || b) was.given ∙ or_true (opens id d));
      ruled = ap is_undecided stands.verdicts ∙ was.ruled;
      alone = stands.solos ∙ was.alone;
      shown = stands.word ∙ was.shown;
      below = λ c lt. subst (λ j. settled c j (d ∷ h) ≡ true) (sym p) (settled_stays c id d h (was.below c lt));
    }

module _ (shape : ℕ → Option Shape) (k : Config) (a : ℕ) (ds h : List Deed) (rests : owed h ≡ 0) (goes : GoesOn shape k (Cpu a) ds h) where
  settled_below : (n s : ℕ) (w : SlotState) → SettledBelow n s w h → SettledBelow n s w (ds ++ h)
  settled_below n s w st =
      let was = awaiting k s h w.code (sound_below k ds h goes.legal.0) rests (ap (λ (x : SlotState). x.code) st.0) st.1 in
      let now = over k (Cpu a) (IsDue n s w) (due_stays k a n s w) ds h goes.legal.0 goes.by record { given = was.given; ruled = was.ruled; alone = was.alone; shown = st.0; below = st.2 } in
      (now.shown, st.1, now.below)

  stands_consumer : (side : ConsumerProgress) (f : ConsumerFlight) → StandsConsumer k h side f → StandsConsumer k (ds ++ h) side f
  stands_consumer side (consumer.CleanAck s w c n) st = (st.0, st.1, st.2, settled_below c s w st.3, st.4)
  stands_consumer side (consumer.CleanReap s w n) st = (st.0, st.1, settled_below k.cpus s w st.2, st.3)
  stands_consumer side f st = st

  -- a CPU's deeds leave the consumer's side standing
  pub side_stands : (side : ConsumerProgress) (f : Option ConsumerFlight) → StandsState k h side f → StandsState k (ds ++ h) side f
  side_stands side None st = st
  side_stands side (Some f) st = stands_consumer side f st
