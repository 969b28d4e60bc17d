-- A call in flight of a coherent play can be told.
use Rattle.std.proofs.Common.{◌≡◌, ℕ, suc, ◌<◌, ◌≤◌, ◌^◌, true, false, true≢false, List, [], ◌∷◌, Option, Some, None, refl, sym, ap, ◌∙◌, subst, ⊎_elim, inl, inr, arith}
use Rattle.dspec_picture.specs.Words.{Shape, code_number, is_inactive, Speculation, SlotState, word_number, CanBeReleased, start_fault, issue, is_undecided, present, releases, verdict, word_at}
use Rattle.dspec_picture.specs.Words.{IsSound, Follows, consumer_op_of, is_about, Expects, StandsConsumer, StandsCpu, progress_of, PlayState, CanBeTold, ConsumerCanBeTold, IsCoherent, IsNamedSlot}
use Rattle.dspec_picture.specs.Words.{IsSlot, in_range, Act, Code, Inactive, Active, ActiveOne, ActiveMany, Committing, CommittingMany, Discarding, Config, Deed, Release, CpuProgress}
use Rattle.dspec_picture.specs.Words.{ConsumerFlight, ConsumerProgress, CallPlace}
use Rattle.dspec_word.proofs.Numbers.{code_below}
use Rattle.dspec_deeds.proofs.{PresentIds.decided_given, SetUp.set_up, TestLemmas.either_way, TestLemmas.same_number, WordCodes.open_inactive}
use Rattle.dspec_interleaving.specs.declared.flight.ConsumerFlight.TheVariants as consumer
use Rattle.dspec_interleaving.specs.declared.flight.CallPlace.TheVariants as cpu
use Rattle.dspec_interleaving.proofs.{CleanReads.clean_stands, Counts.issue_below, Counts.issues_fit, StepReads.can_be_released, StepReads.flight_stands, StepReads.slots_fit}
use Rattle.dspec_core.proofs.MachineReads.{slot_in_range}

-- what is released was decided
was_decided : (k : Config) (s : ℕ) (d : Deed) (h : List Deed) → Follows k h d → releases s d ≡ true → is_undecided (verdict (present s h) h) ≡ false
was_decided k s (Release n) h f t = subst (λ (x : ℕ). is_undecided (verdict (present x h) h) ≡ false) (sym (same_number s n t)) f.1.0.0
was_decided k s d h f t = absurd (true≢false (sym t))

-- a slot is released that many times at most
most_releases : (k : Config) (s : ℕ) (h : List Deed) → IsSound k h → issue s h ≤ k.max_issues
most_releases k s [] sound = omega arith
most_releases k s (d ∷ h) sound = ⊎_elim
    (λ (t : releases s d ≡ true).
    let less = issue_below k h (present s h) sound.0 (decided_given k h (present s h) sound.0 (was_decided k s d h sound.1 t)) in
    let up : issue s (d ∷ h) ≡ suc (issue s h) = rw t refl in
    omega arith)
    (λ (f : releases s d ≡ false). let same : issue s (d ∷ h) ≡ issue s h = rw f refl in let before = most_releases k s h sound.0 in omega arith)
    (either_way (releases s d))

-- a word that isn't above one that can be released
expected : (from w : SlotState) → word_number from ≤ word_number w → w.issue ≤ 2 ^ 57 → CanBeReleased w → CanBeReleased from
expected from w rises most can = go from.code refl
  where
    below : 1 ≤ code_number from.code → from.issue < 2 ^ 57
    below some =
        let code = code_below w.code in
        ⊎_elim
        (λ (less : w.issue < 2 ^ 57). let is : from.issue < 2 ^ 57 = omega arith in is)
        (λ (e : w.code ≡ Inactive). let none : code_number w.code ≡ 0 = ap code_number e in let is : from.issue < 2 ^ 57 = omega arith in is)
        can

    go : (x : Code) → from.code ≡ x → CanBeReleased from
    go Inactive e = inr e
    go Active e = inl (below (let n = ap code_number e in omega arith))
    go ActiveOne e = inl (below (let n = ap code_number e in omega arith))
    go ActiveMany e = inl (below (let n = ap code_number e in omega arith))
    go Committing e = inl (below (let n = ap code_number e in omega arith))
    go CommittingMany e = inl (below (let n = ap code_number e in omega arith))
    go Discarding e = inl (below (let n = ap code_number e in omega arith))

-- an inactive word
inactive_can : (w : SlotState) → is_inactive w.code ≡ true → CanBeReleased w
inactive_can w t = inr (go w.code refl)
  where
    go : (x : Code) → w.code ≡ x → w.code ≡ Inactive
    go Inactive is = is
    go Active is = absurd (true≢false (sym t ∙ ap is_inactive is))
    go ActiveOne is = absurd (true≢false (sym t ∙ ap is_inactive is))
    go ActiveMany is = absurd (true≢false (sym t ∙ ap is_inactive is))
    go Committing is = absurd (true≢false (sym t ∙ ap is_inactive is))
    go CommittingMany is = absurd (true≢false (sym t ∙ ap is_inactive is))
    go Discarding is = absurd (true≢false (sym t ∙ ap is_inactive is))

module _ (k : Config) (h : List Deed) (ranges : start_fault k ≡ None) (sound : IsSound k h) where
  tried : (id : Speculation) (from : SlotState) (act : Act) → Expects act from id h → CanBeReleased from
  tried id from act expects =
      let most = issues_fit k ranges in
      let within = most_releases k id.slot h sound in
      expected from (word_at id.slot h) expects.rises (omega arith) (can_be_released k id.slot h ranges sound)

  named : (s : ℕ) → IsSlot k s → IsNamedSlot k s
  named s slot = let fit = slots_fit k ranges in let most = slot.1 in (slot, omega arith)

  in_range_named : (id : Speculation) → in_range k id ≡ true → IsNamedSlot k id.slot
  in_range_named id e = named id.slot (slot_in_range k id e)

  first : IsNamedSlot k 1
  first = named 1 (omega arith, (set_up k ranges).1)

  cpu_told : (c : ℕ) (me : CpuProgress) (f : CallPlace) → StandsCpu k c h me f → CanBeTold k f
  cpu_told c me (cpu.Begun o) at = first
  cpu_told c me (cpu.ScanLoad s) at = named s at.0
  cpu_told c me (cpu.ScanTry s from) at = (named s at.0, inactive_can from (open_inactive from at.3.0 k.max_issues at.3.1))
  cpu_told c me (cpu.SpeculateLoad id r) at = in_range_named id at.0.in_range
  cpu_told c me (cpu.SpeculateTry id r from) at = (in_range_named id at.0.in_range, tried id from _ at.1)
  cpu_told c me (cpu.CommitLoad id) at = in_range_named id at.0.in_range
  cpu_told c me (cpu.CommitTry id from) at = (in_range_named id at.0.in_range, tried id from _ at.1)
  cpu_told c me (cpu.CommitRelease id f) at = tt
  cpu_told c me (cpu.DiscardLoad id) at = in_range_named id at.0.in_range
  cpu_told c me (cpu.DiscardTry id from) at = (in_range_named id at.0.in_range, tried id from _ at.1)
  cpu_told c me cpu.ServicePop at = tt
  cpu_told c me cpu.ServicePush at = tt
  cpu_told c me (cpu.ServiceLoad s sum) at = named s at.0
  cpu_told c me (cpu.ServiceStore s w sum) at = named s at.0

  consumer_told : (side : ConsumerProgress) (f : ConsumerFlight) → is_about k (consumer_op_of f) ≡ true → StandsConsumer k h side f → ConsumerCanBeTold k f
  consumer_told side (consumer.Begun o) about at = (about, first)
  consumer_told side (consumer.CleanLoad s n) about at = named s at.0
  consumer_told side (consumer.CleanAck s w c n) about at = (named s at.0, at.2)
  consumer_told side (consumer.CleanReap s w n) about at = (named s at.0, subst CanBeReleased at.2.0 (can_be_released k s h ranges sound))

module _ (shape : ℕ → Option Shape) (st : PlayState) (coherent : IsCoherent shape st) where
  pub cpu_can_be_told : (c : ℕ) (f : CallPlace) → c < st.config.cpus → (progress_of st.progresses c).flight ≡ Some f → CanBeTold st.config f
  cpu_can_be_told c f lt is = cpu_told st.config st.deeds coherent.ranges coherent.legal.0 c (progress_of st.progresses c) f (flight_stands shape st coherent c lt f is)

  pub consumer_can_be_told : (f : ConsumerFlight) → st.side.flight ≡ Some f → is_about st.config (consumer_op_of f) ≡ true → ConsumerCanBeTold st.config f
  consumer_can_be_told f is about = consumer_told st.config st.deeds coherent.ranges coherent.legal.0 st.side f about (clean_stands shape st coherent f is)
