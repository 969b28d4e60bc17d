-- Once every CPU has run a service after a decision, and the consumer a clean after those, the slot is released.
use Prim.Native.Nat.{zero, suc}
use Rattle.std.proofs.Common.{◌≡◌, ◌≤◌, ◌<◌, ◌⊎◌, inl, inr, ℕ, Bool, true, false, ◌&&◌, List, [], ◌∷◌, ◌++◌, Option, Some, None, if◌then◌else◌, refl, sym, ap, ◌∙◌, subst, ⊎_elim, arith}
use Rattle.dspec_interleaving.specs.Words.{Shape, Speculation, issue, verdict, is_undecided, solo, settled, PlayState, StandsProgress, progress_of, Call, of_cpu, of_consumer, once_called, after_all}
use Rattle.dspec_interleaving.specs.Words.{is_sealing, whole_service, all_settled, IsCall, AreCalls, HasService, IsReleased, Seal}
use Rattle.dspec_deeds.specs.declared.calls.ConsumerOp.TheVariants as consumer_op
use Rattle.dspec_deeds.specs.declared.calls.CpuOp.TheVariants as cpu_op
use Rattle.dspec_interleaving.specs.declared.flight.Spare.TheVariants as spare
use Rattle.dspec_deeds.proofs.{PresentIds.decided_given, SetUp.set_up, SoundLists.opened_in_range}
use Rattle.dspec_interleaving.proofs.ReleasedParts.{IsShared, releases_by, settled_more, settles_by, shared_stays, unreleased}
use Rattle.dspec_interleaving.proofs.WholeSettling.{IsAtRest}
use Rattle.dspec_interleaving.proofs.WholeStates.{released_stays, IsResting, after_config, still_calls, rest_all, config_all, after_rests, after_grows}

module _ (shape : ℕ → Option Shape) (id : Speculation) where
  -- released since, or settled by the CPU
  abbrev IsThrough : ℕ → PlayState → Type 0
  IsThrough c st = IsReleased id st.deeds ⊎ (settled c id st.deeds ≡ true)

  -- between two whole calls, after a decision that no CPU made alone
  record Waits (st : PlayState) : Type 0 where
    rest : IsResting shape st
    shared : IsShared id st.deeds

  waits_stays : (x : Call) (st : PlayState) → IsCall st.config x → Waits st → Waits (once_called shape x st)
  waits_stays x st there w = record {
    rest = after_rests shape st w.rest x there;
    shared = shared_stays (once_called shape x st).config id st.deeds _
        (after_grows shape st w.rest x there) (after_rests shape st w.rest x there).coherent.legal.0 w.shared;
  }

  through_stays : (c : ℕ) (x : Call) (st : PlayState) → IsCall st.config x → Waits st → IsThrough c st → IsThrough c (once_called shape x st)
  through_stays c x st there w p =
      let g = after_grows shape st w.rest x there in
      ⊎_elim (λ (r : IsReleased id st.deeds). inl (released_stays id st.deeds _ g r)) (λ (s : settled c id st.deeds ≡ true). inr (settled_more c id st.deeds _ g s)) p

  slot_there : (st : PlayState) → Waits st → (1 ≤ id.slot) × (id.slot ≤ st.config.nspec)
  slot_there st w =
      let ok = w.rest.coherent in
      opened_in_range st.config st.deeds id (set_up st.config ok.ranges).1 ok.legal.0 (decided_given st.config st.deeds id ok.legal.0 w.shared.ruled)

  -- a service of the CPU settles it
  service_through : (c : ℕ) (st : PlayState) → c < st.config.cpus → Waits st → IsThrough c (once_called shape (of_cpu c cpu_op.Service) st)
  service_through c st lt w = ⊎_elim
      (λ (r : IsReleased id st.deeds). through_stays c (of_cpu c cpu_op.Service) st lt w (inl r))
      (λ (now : issue id.slot st.deeds ≡ id.issue). inr (go (is_sealing shape st.config c (progress_of st.progresses c) st.deeds) now))
      (unreleased st.config id st.deeds w.rest.coherent.legal.0 w.shared.ruled)
    where
      at : IsAtRest st.config c st.deeds
      at = record {
        sound = w.rest.coherent.legal.0;
        rests = w.rest.coherent.rests;
        still = (subst (StandsProgress st.config c st.deeds (progress_of st.progresses c)) (w.rest.idle c lt) (w.rest.coherent.stands c lt).flight).0;
      }

      go : (b : Bool) → issue id.slot st.deeds ≡ id.issue
          → settled c id (if b then whole_service shape st.config c (record (progress_of st.progresses c) { spare = spare.Handed }) (Seal c ∷ st.deeds) true else whole_service
          shape st.config c (progress_of st.progresses c) st.deeds false).list ≡ true
      go true now =
          let sealed : IsAtRest st.config c (Seal c ∷ st.deeds) = record { sound = (at.sound, (at.rests, tt)); rests = refl; still = at.still } in
          settles_by shape st.config c id st.config.nspec (Seal c ∷ st.deeds) sealed record { ruled = w.shared.ruled; shared = w.shared.shared } now (slot_there st w).0 (slot_there st w).1
      go false now = settles_by shape st.config c id st.config.nspec st.deeds at w.shared now (slot_there st w).0 (slot_there st w).1

  clean_releases : (st : PlayState) → Waits st → IsReleased id st.deeds ⊎ (all_settled st.config st.config.cpus id st.deeds ≡ true)
      → IsReleased id (once_called shape (of_consumer consumer_op.Clean) st).deeds
  clean_releases st w p = ⊎_elim
      (λ (r : IsReleased id st.deeds). released_stays id st.deeds _ (after_grows shape st w.rest (of_consumer consumer_op.Clean) tt) r)
      (λ (all : all_settled st.config st.config.cpus id st.deeds ≡ true). releases_by st.config id st.config.nspec st.deeds record
      { sound = w.rest.coherent.legal.0; rests = w.rest.coherent.rests } w.shared all (slot_there st w).0 (slot_there st w).1)
      p

  each_through : (n : ℕ) (st : PlayState) → ((c : ℕ) → c < n → IsThrough c st) → IsReleased id st.deeds ⊎ (all_settled st.config n id st.deeds ≡ true)
  each_through zero st each = inr refl
  each_through (suc n) st each = ⊎_elim
      (λ (r : IsReleased id st.deeds). inl r)
      (λ (all : all_settled st.config n id st.deeds ≡ true). ⊎_elim (λ (r : IsReleased id st.deeds). inl r)
      (λ (s : settled n id st.deeds ≡ true). inr (ap (λ b. b && settled n id st.deeds) all ∙ s)) (each n (omega arith)))
      (each_through n st (λ c lt. each c (omega arith)))

  -- after a list of whole calls
  released_all : (xs : List Call) (st : PlayState) → AreCalls st.config xs → IsResting shape st → IsReleased id st.deeds → IsReleased id (after_all shape xs st).deeds
  released_all [] st all rest r = r
  released_all (x ∷ xs) st all rest r = released_all xs (once_called shape x st) (still_calls shape x xs st all.1) (after_rests shape st rest x all.0)
      (released_stays id st.deeds _ (after_grows shape st rest x all.0) r)

  waits_all : (xs : List Call) (st : PlayState) → AreCalls st.config xs → Waits st → Waits (after_all shape xs st)
  waits_all [] st all w = w
  waits_all (x ∷ xs) st all w = waits_all xs (once_called shape x st) (still_calls shape x xs st all.1) (waits_stays x st all.0 w)

  through_all : (c : ℕ) (xs : List Call) (st : PlayState) → AreCalls st.config xs → Waits st → IsThrough c st → IsThrough c (after_all shape xs st)
  through_all c [] st all w p = p
  through_all c (x ∷ xs) st all w p = through_all c xs (once_called shape x st) (still_calls shape x xs st all.1) (waits_stays x st all.0 w) (through_stays c x st all.0 w p)

  service_all : (c : ℕ) (xs : List Call) (st : PlayState) → c < st.config.cpus → AreCalls st.config xs → Waits st → HasService c xs → IsThrough c (after_all shape xs st)
  service_all c [] st lt all w has = absurd has
  service_all c (x ∷ xs) st lt all w has = ⊎_elim
      (λ (e : x ≡ of_cpu c cpu_op.Service). through_all c xs (once_called shape x st) (still_calls shape x xs st all.1) (waits_stays x st all.0 w)
      (subst (λ y. IsThrough c (once_called shape y st)) (sym e) (service_through c st lt w)))
      (λ (has : HasService c xs). service_all c xs (once_called shape x st) (subst (λ k. c < k.cpus) (sym (after_config shape x st)) lt) (still_calls shape x xs st all.1)
      (waits_stays x st all.0 w) has)
      has

  after_both : (xs ys : List Call) (st : PlayState) → after_all shape (xs ++ ys) st ≡ after_all shape ys (after_all shape xs st)
  after_both [] ys st = refl
  after_both (x ∷ xs) ys st = after_both xs ys (once_called shape x st)

  -- once each CPU has run a service after a decision, and the consumer a clean after those, the slot is released
  pub whole_release : (st : PlayState) → IsResting shape st → is_undecided (verdict id st.deeds) ≡ false → (xs ys : List Call) → AreCalls st.config xs → AreCalls st.config ys
      → ((c : ℕ) → c < st.config.cpus → HasService c xs) → IsReleased id (after_all shape (xs ++ (of_consumer consumer_op.Clean ∷ ys)) st).deeds
  whole_release st rest ruled xs ys all_xs all_ys each =
      let mid : PlayState = after_all shape xs st in
      let cleaned : PlayState = once_called shape (of_consumer consumer_op.Clean) mid in
      let rest' : IsResting shape mid = rest_all shape xs st all_xs rest in
      let calls : AreCalls cleaned.config ys = subst (λ k. AreCalls k ys) (sym (config_all shape xs st)) all_ys in
      let released : IsReleased id cleaned.deeds = go (solo id st.deeds) refl in
      subst (λ (x : PlayState). IsReleased id x.deeds) (sym (after_both xs (of_consumer consumer_op.Clean ∷ ys) st))
      (released_all ys cleaned calls (after_rests shape mid rest' (of_consumer consumer_op.Clean) tt) released)
    where
      go : (x : Option ℕ) → solo id st.deeds ≡ x → IsReleased id (once_called shape (of_consumer consumer_op.Clean) (after_all shape xs st)).deeds
      go None none =
          let w : Waits st = record { rest = rest; shared = record { ruled = ruled; shared = none } } in
          let w' : Waits (after_all shape xs st) = waits_all xs st all_xs w in
          clean_releases (after_all shape xs st) w' (each_through (after_all shape xs st).config.cpus (after_all shape xs st)
          (λ c lt. let lt' : c < st.config.cpus = subst (λ k. c < k.cpus) (config_all shape xs st) lt in service_all c xs st lt' all_xs w (each c lt')))
      go (Some a) some =
          let r : IsReleased id st.deeds = rest.alone id (λ none. some_not (sym none ∙ some)) in
          let rest' : IsResting shape (after_all shape xs st) = rest_all shape xs st all_xs rest in
          released_stays id (after_all shape xs st).deeds _ (after_grows shape (after_all shape xs st) rest' (of_consumer consumer_op.Clean) tt) (released_all xs st all_xs rest r)
        where
          some_not : ◌≡◌ {A = Option ℕ} None (Some a) → ⊥
          some_not e = cc (e)
