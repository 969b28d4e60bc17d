-- What a coherent state tells an atomic step before it is made.
use Rattle.std.proofs.Common.{◌≡◌, ℕ, ◌^◌, ◌<◌, ◌≤◌, true, false, not, List, Option, Some, None, refl, ap, ◌∙◌, subst, ⊎_elim, inl, inr, arith}
use Rattle.dspec_interleaving.specs.Words.{Shape, Code, Inactive, is_inactive, CanBeReleased, start_fault, opened, present, word_at, issue, IsSound, PlayState, IsCoherent, StandsCpu, StandsProgress}
use Rattle.dspec_interleaving.specs.Words.{progress_of, Config, Deed}
use Rattle.dspec_interleaving.specs.declared.flight.CallPlace.{CallPlace}
use Rattle.dspec_deeds.proofs.{SetUp.set_up, TestLemmas.either_way, WordCodes.word_inactive}
use Rattle.dspec_interleaving.proofs.{Bounded.cpu_below, Bounded.cpu_within, Counts.issue_below, Counts.issues_fit, Tests.all_fit}

-- the code of an inactive word
inactive_code : (code : Code) → is_inactive code ≡ true → code ≡ Inactive
inactive_code Inactive e = refl
inactive_code code e = absurd (cc (e))

-- the tables take each word that a legal list shows
pub can_be_released : (k : Config) (s : ℕ) (h : List Deed) → start_fault k ≡ None → IsSound k h → CanBeReleased (word_at s h)
can_be_released k s h ranges sound = ⊎_elim
    (λ (t : opened (present s h) h ≡ true).
    let below : issue s h < k.max_issues = issue_below k h (present s h) sound t in
    let most = issues_fit k ranges in
    let fits : (word_at s h).issue < 2 ^ 57 = omega arith in
    inl fits)
    (λ (f : opened (present s h) h ≡ false). inr (inactive_code (word_at s h).code (word_inactive s h ∙ ap not f)))
    (either_way (opened (present s h) h))

-- no more slots than a call goes over
pub slots_fit : (k : Config) → start_fault k ≡ None → k.nspec ≤ 63
slots_fit k e = (all_fit k e).0

module _ (shape : ℕ → Option Shape) (st : PlayState) (coherent : IsCoherent shape st) (c : ℕ) (lt : c < st.config.cpus) (f : CallPlace) (is : (progress_of st.progresses c).flight ≡ Some f) where
  -- where the call in flight stands
  pub flight_stands : StandsCpu st.config c st.deeds (progress_of st.progresses c) f
  flight_stands = subst (λ o. StandsProgress st.config c st.deeds (progress_of st.progresses c) o) is (coherent.stands c lt).flight

  -- its steps can be counted
  pub steps_fit : (progress_of st.progresses c).steps < 2 ^ 31
  steps_fit =
      let some = (set_up st.config coherent.ranges).1 in
      let below = cpu_below st.config c st.deeds (progress_of st.progresses c) some f flight_stands in
      let within = cpu_within st.config some (Some f) in
      let most = slots_fit st.config coherent.ranges in
      omega arith
