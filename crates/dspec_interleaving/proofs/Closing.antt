-- The settlements of the close are legal, and leave nothing decided in a buffer: what waits then is undecided.
use Rattle.std.proofs.Common.{◌≡◌, ℕ, zero, suc, ◌<◌, ◌≤◌, Bool, true, false, not, ◌==◌, ◌&&◌, List, [], ◌∷◌, Option, Some, None, if◌then◌else◌, refl, sym, ap, ◌∙◌, subst, ⊎_elim, arith}
use Rattle.std.specs.Prelude.{nat_le}
use Rattle.dspec_interleaving.specs.Words.{Shape, Granted, Idle, awaits, Speculation, SlotState, issue, present, opened, verdict, is_undecided, solo, settled, word_at, ack, seals, held, IsAllowed}
use Rattle.dspec_interleaving.specs.Words.{settle_fate, start_fault, IsSlot, StandsProgress, ProgressStands, progress_of, PlayState, IsCoherent, CanClose, is_granted, closed_slot, closed_slots}
use Rattle.dspec_interleaving.specs.Words.{closed_cpus, closing, WaitsUndecided, waiting, fate, times, measured, Config, Cpu, Served, Deed, Settle}
use Rattle.dspec_interleaving.specs.declared.flight.CpuProgress.{CpuProgress}
use Rattle.dspec_interleaving.specs.declared.flight.CallPlace.TheVariants as cpu
use Rattle.dspec_interleaving.specs.declared.flight.Spare.TheVariants as spare
use Rattle.dspec_deeds.proofs.{Acked.settled_stays, Acked.ack_tells, DeedEffects.legal_accounts, DeedOffers.waits_for, Emptied.settled_empty, Emptied.solo_empty, Emptied.past_empty, Going.GoesOn}
use Rattle.dspec_deeds.proofs.{HeldOffers.tally, HeldOffers.times_held, PresentIds.present_is, PresentIds.decided_given, SetUp.set_up, SoundLists.opened_by_now, SoundLists.opened_in_range}
use Rattle.dspec_deeds.proofs.{TestLemmas.either_way, TestLemmas.and_tells, TestLemmas.number_is_itself, TestLemmas.same_number, TestLemmas.numbers_differ, TestLemmas.id_is_itself}
use Rattle.dspec_deeds.proofs.{WordCodes.decided_awaits}
use Rattle.dspec_interleaving.proofs.{CpuSteps.cpu_step_stands, StepDeeds.served_deeds, Tests.not_tells}

-- a play with no call of a CPU in flight can close
pub can_close : (shape : ℕ → Option Shape) (st : PlayState) → IsCoherent shape st → ((c : ℕ) → c < st.config.cpus → (progress_of st.progresses c).flight ≡ None) → CanClose shape st.config st.deeds
can_close shape st ok none = record {
  legal = ok.legal;
  rests = ok.rests;
  idle = λ c lt. (subst (StandsProgress st.config c st.deeds (progress_of st.progresses c)) (none c lt) (ok.stands c lt).flight).0;
}

-- a list that settlements have lengthened
pub record HasSettled (shape : ℕ → Option Shape) (k : Config) (h g : List Deed) : Type 0 where
  pub rest : CanClose shape k g
  words : (s : ℕ) → word_at s g ≡ word_at s h
  kept : (c : ℕ) (id : Speculation) → settled c id h ≡ true → settled c id g ≡ true
  solos : (s : ℕ) → solo (present s g) g ≡ solo (present s h) h

-- the CPU has settled what waits for it in the slot
abbrev pub IsSettledAt : ℕ → ℕ → List Deed → Type 0
IsSettledAt c s h = awaits (word_at s h).code ≡ true → settled c (present s h) h ≡ true

granted_is : (b : Bool) → is_granted (if b then Granted else Idle) ≡ b
granted_is true = refl
granted_is false = refl

module _ (shape : ℕ → Option Shape) (k : Config) (fine : start_fault k ≡ None) where
  none_settled : (h : List Deed) → CanClose shape k h → HasSettled shape k h h
  none_settled h rest = record { rest = rest; words = λ s. refl; kept = λ c id e. e; solos = λ s. refl }

  more_settled : (h g f : List Deed) → HasSettled shape k h g → HasSettled shape k g f → HasSettled shape k h f
  more_settled h g f one two = record { rest = two.rest; words = λ s. two.words s ∙ one.words s; kept = λ c id e. two.kept c id (one.kept c id e); solos = λ s. two.solos s ∙ one.solos s }

  still_settled : (c s : ℕ) (h g : List Deed) → HasSettled shape k h g → IsSettledAt c s h → IsSettledAt c s g
  still_settled c s h g more was waits =
      let same = more.words s in
      let p : present s h ≡ present s g = λ i. record { issue = (sym same i).issue; slot = s } in
      subst (λ j. settled c j g ≡ true) p (more.kept c (present s h) (was (ap (λ (x : SlotState). awaits x.code) (sym same) ∙ waits)))

  -- a settlement of the close is the one that a service would make there
  settles_legally : (c s : ℕ) (h : List Deed) → CanClose shape k h → c < k.cpus → IsSlot k s → awaits (word_at s h).code ≡ true → settled c (present s h) h ≡ false
      → GoesOn shape k (Cpu c) (Settle c (present s h) (settle_fate shape k c h (present s h) (word_at s h).code) ∷ []) h
  settles_legally c s h rest lt slot waits not_yet =
      subst (λ ds. GoesOn shape k (Cpu c) ds h) (served_deeds k c (measured shape k c h) me s _ _)
      (cpu_step_stands shape k c h me fine rest.legal rest.rests stands (cpu.ServiceStore s (word_at s h) none) refl).goes
    where
      none : Served
      none = record { sealed = false; settled = 0 }

      me : CpuProgress
      me = record { flight = Some (cpu.ServiceStore s (word_at s h) none); steps = 0; spare = spare.Out; want = 0; takes = seals c h; worn = 0 }

      stands : ProgressStands k c h me
      stands = record { flight = (slot, rest.idle c lt, omega arith, slot.0, refl, waits, not_yet); counts = refl; pushes = tt; want = omega arith }

  pub slot_settles : (c s : ℕ) (h : List Deed) → CanClose shape k h → c < k.cpus → IsSlot k s → HasSettled shape k h (closed_slot shape k c s h) × IsSettledAt c s (closed_slot shape k c s h)
  slot_settles c s h rest lt slot = ⊎_elim
      (λ (t : (awaits (word_at s h).code && nat_le (ack c s h) (issue s h)) ≡ true).
      let both = and_tells (awaits (word_at s h).code) (nat_le (ack c s h) (issue s h)) t in
      let not_yet : settled c (present s h) h ≡ false = not_tells (settled c (present s h) h) (sym (ack_tells k c s h rest.legal.0) ∙ both.1) in
      let goes = settles_legally c s h rest lt slot both.0 not_yet in
      rw (granted_is (awaits (word_at s h).code && nat_le (ack c s h) (issue s h)), t) (
        record {
          rest = record { legal = goes.legal; rests = goes.rests; idle = rest.idle };
          words = λ t. refl;
          kept = λ b id e. settled_stays b id
              (Settle c (present s h) (settle_fate shape k c h (present s h) (word_at s h).code)) h e;
          solos = λ t. refl;
        },
        λ w. rw (number_is_itself c, id_is_itself (present s h)) refl,
      ))
      (λ (f : (awaits (word_at s h).code && nat_le (ack c s h) (issue s h)) ≡ false).
      rw (granted_is (awaits (word_at s h).code && nat_le (ack c s h) (issue s h)), f)
      (none_settled h rest, λ waits. before (awaits (word_at s h).code) (nat_le (ack c s h) (issue s h)) (settled c (present s h) h) waits f (ack_tells k c s h rest.legal.0)))
      (either_way (awaits (word_at s h).code && nat_le (ack c s h) (issue s h)))
    where
      before : (a b x : Bool) → a ≡ true → (a && b) ≡ false → b ≡ not x → x ≡ true
      before a b true w f e = refl
      before true b false w f e = sym f ∙ e
      before false b false w f e = w

  pub slots_settle : (c n : ℕ) (h : List Deed) → CanClose shape k h → c < k.cpus → n ≤ k.nspec
      → HasSettled shape k h (closed_slots shape k c n h) × ((s : ℕ) → 1 ≤ s → s ≤ n → IsSettledAt c s (closed_slots shape k c n h))
  slots_settle c zero h rest lt most = (none_settled h rest, λ s one none. absurd (omega arith))
  slots_settle c (suc n) h rest lt most =
      let g = closed_slots shape k c n h in
      let before = slots_settle c n h rest lt (omega arith) in
      let this = slot_settles c (suc n) g before.0.rest lt (omega arith, most) in (
        more_settled h g (closed_slot shape k c (suc n) g) before.0 this.0,
        λ s one le. ⊎_elim
            (λ (t : (s == suc n) ≡ true). subst (λ x. IsSettledAt c x (closed_slot shape k c (suc n) g)) (sym (same_number s (suc n) t)) this.1)
            (λ (f : (s == suc n) ≡ false). let apart = numbers_differ s (suc n) f in still_settled c s g (closed_slot shape k c (suc n) g) this.0 (before.1 s one (omega arith)))
            (either_way (s == suc n)),
      )

  pub cpus_settle : (n : ℕ) (h : List Deed) → CanClose shape k h → n ≤ k.cpus
      → HasSettled shape k h (closed_cpus shape k n h) × ((c s : ℕ) → c < n → 1 ≤ s → s ≤ k.nspec → IsSettledAt c s (closed_cpus shape k n h))
  cpus_settle zero h rest most = (none_settled h rest, λ c s none one le. absurd (omega arith))
  cpus_settle (suc n) h rest most =
      let g = closed_cpus shape k n h in
      let before = cpus_settle n h rest (omega arith) in
      let these = slots_settle n k.nspec g before.0.rest (omega arith) (omega arith) in (
        more_settled h g (closed_slots shape k n k.nspec g) before.0 these.0,
        λ c s lt one le. ⊎_elim
            (λ (t : (c == n) ≡ true). subst (λ x. IsSettledAt x s (closed_slots shape k n k.nspec g)) (sym (same_number c n t)) (these.1 s one le))
            (λ (f : (c == n) ≡ false). let apart = numbers_differ c n f in still_settled c s g (closed_slots shape k n k.nspec g) these.0 (before.1 c s (omega arith) one le))
            (either_way (c == n)),
      )

-- what the close leaves: a legal list, every CPU has settled what waits for it, and nothing decided is held
pub record IsClosed (shape : ℕ → Option Shape) (k : Config) (h : List Deed) : Type 0 where
  pub rest : CanClose shape k h
  pub settled_all : (c s : ℕ) → c < k.cpus → 1 ≤ s → s ≤ k.nspec → IsSettledAt c s h
  pub none_held : (c : ℕ) (id : Speculation) → c < k.cpus → is_undecided (verdict id h) ≡ false → held c id h ≡ []
  pub waits : WaitsUndecided k h

-- where each CPU has settled what waits for it, nothing decided is held
none_decided_held : (shape : ℕ → Option Shape) (k : Config) (h : List Deed) (c : ℕ) (id : Speculation) → start_fault k ≡ None → IsAllowed shape k h → c < k.cpus
    → ((s : ℕ) → 1 ≤ s → s ≤ k.nspec → IsSettledAt c s h) → is_undecided (verdict id h) ≡ false → held c id h ≡ []
none_decided_held shape k h c id fine legal lt all ruled = ⊎_elim
    (λ (t : (issue id.slot h == id.issue) ≡ true).
    let p = present_is id h (same_number (issue id.slot h) id.issue t) in
    by_solo (solo id h) refl p)
    (λ (f : (issue id.slot h == id.issue) ≡ false).
    let apart = numbers_differ (issue id.slot h) id.issue f in
    let most = opened_by_now k h id legal.0 given in
    past_empty k c id h lt legal.0 (omega arith))
    (either_way (issue id.slot h == id.issue))
  where
    given : opened id h ≡ true
    given = decided_given k h id legal.0 ruled

    by_solo : (o : Option ℕ) → solo id h ≡ o → present id.slot h ≡ id → held c id h ≡ []
    by_solo (Some a) e p = solo_empty k c id h legal.0 (λ n. cc (e, n))
    by_solo None e p =
        let there = opened_in_range k h id (set_up k fine).1 legal.0 given in
        let waits = decided_awaits k id.slot h legal.0 (subst (λ j. is_undecided (verdict j h) ≡ false) (sym p) ruled) (subst (λ j. solo j h ≡ None) (sym p) e) in
        settled_empty k c id h legal.0 (subst (λ j. settled c j h ≡ true) p (all id.slot there.0 there.1 waits))

-- where nothing decided is held, what waits is undecided
waits_undecided : (shape : ℕ → Option Shape) (k : Config) (h : List Deed) (c j : ℕ) (id : Speculation) → IsAllowed shape k h
    → (is_undecided (verdict id h) ≡ false → held c id h ≡ []) → fate c j h ≡ Some (waiting id) → is_undecided (verdict id h) ≡ true
waits_undecided shape k h c j id legal empty is = ⊎_elim
    (λ (t : is_undecided (verdict id h) ≡ true). t)
    (λ (f : is_undecided (verdict id h) ≡ false).
    let once = times_held c j id h (legal_accounts shape k c h legal) in
    let none : times j (held c id h) ≡ 0 = ap (times j) (empty f) in
    let waits : tally (waits_for id) (fate c j h) ≡ 1 = rw (is, id_is_itself id) refl in
    absurd (omega arith))
    (either_way (is_undecided (verdict id h)))

-- the close of such a list
pub closing_closes : (shape : ℕ → Option Shape) (k : Config) (h : List Deed) → start_fault k ≡ None → CanClose shape k h → IsClosed shape k (closing shape k h)
closing_closes shape k h fine rest =
    let done = cpus_settle shape k fine k.cpus h rest (omega arith) in
    let empty : (c : ℕ) (id : Speculation) → c < k.cpus → is_undecided (verdict id (closing shape k h)) ≡ false → held c id (closing shape k h) ≡ []
    = λ c id lt. none_decided_held shape k (closing shape k h) c id fine done.0.rest.legal lt (λ s. done.1 c s lt) in
    record {
      rest = done.0.rest;
      settled_all = done.1;
      none_held = empty;
      waits = λ c j id lt is. waits_undecided shape k (closing shape k h) c j id done.0.rest.legal (empty c id lt) is;
    }
