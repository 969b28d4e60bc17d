-- What a coherent state tells an atomic step of the consumer before it is made.
use Rattle.std.proofs.Common.{◌≡◌, ◌≢◌, ℕ, ◌+◌, ◌^◌, ◌<◌, ◌≤◌, ◌==◌, Bool, true, false, ◌&&◌, List, [], ◌∷◌, ◌++◌, length, get_or, Option, Some, None, if◌then◌else◌, refl, sym, ◌∙◌, subst, arith}
use Rattle.std.proofs.lemmas.{Nat.mul-le, Option.slice_get_read}
use Rattle.std.specs.Prelude.{slice_get}
use Rattle.dspec_interleaving.specs.Words.{Shape, Attempt, Idle, awaits, SlotState, released, reap_at, start_fault, word_at, IsAllowed, seals, ConsumerStep, consumer_step, keeps_on, next_slot}
use Rattle.dspec_interleaving.specs.Words.{same_word, stops, PlayState, IsCoherent, StandsConsumer, StandsState, progress_of, Config, Deed, Release}
use Rattle.dspec_interleaving.specs.declared.flight.{ConsumerFlight.ConsumerFlight, ConsumerProgress.ConsumerProgress, CpuProgress.CpuProgress}
use Rattle.dspec_deeds.specs.declared.calls.Answer.TheVariants as answer
use Rattle.dspec_interleaving.specs.declared.flight.ConsumerFlight.TheVariants as consumer
use Rattle.dspec_interleaving.proofs.{Bounded.clean_below, Bounded.clean_within, ConsumerSteps.consumer_keeps, Counts.takes_sealed, StepReads.slots_fit, Tests.all_fit}
use Rattle.dspec_deeds.proofs.{ReportBounds.fitting_fitted, ReportBounds.seals_within, SetUp.set_up, SetUp.most_cpus}

-- no more calls than can be counted
pub calls_fit : (k : Config) → start_fault k ≡ None → k.max_calls ≤ 2 ^ 62
calls_fit k e = (all_fit k e).2

module _ (shape : ℕ → Option Shape) (st : PlayState) (coherent : IsCoherent shape st) where
  -- one batch more can be counted
  pub takes_fit : (c : ℕ) → c < st.config.cpus → (progress_of st.progresses c).takes + 1 < 2 ^ 64
  takes_fit c lt =
      let me = progress_of st.progresses c in
      let taken = takes_sealed (seals c st.deeds) me.takes me.spare (coherent.stands c lt).counts in
      let sealed = seals_within shape st.config c st.deeds (fitting_fitted shape st.config st.deeds coherent.legal.1) in
      let most = calls_fit st.config coherent.ranges in
      omega arith

  module _ (f : ConsumerFlight) (is : st.side.flight ≡ Some f) where
    -- where the call in flight stands
    pub clean_stands : StandsConsumer st.config st.deeds st.side f
    clean_stands = subst (λ o. StandsState st.config st.deeds st.side o) is coherent.side

    -- its steps can be counted
    pub clean_steps_fit : st.side.steps < 2 ^ 31
    clean_steps_fit =
        let some = (set_up st.config coherent.ranges).1 in
        let below = clean_below st.config st.deeds st.side some f clean_stands in
        let within = clean_within st.config some (Some f) in
        let cpus = most_cpus st.config coherent.ranges in
        let most = mul-le st.config.nspec (st.config.cpus + 2) 63 66 (slots_fit st.config coherent.ranges) (omega arith) in
        omega arith

    -- the deeds of its step are legal
    pub clean_legal : (cleaned : ConsumerStep) → consumer_step st.config st.deeds st.side st.progresses f ≡ cleaned → IsAllowed shape st.config (cleaned.deeds ++ st.deeds)
    clean_legal cleaned e = subst (λ (m : ConsumerStep). IsAllowed shape st.config (m.deeds ++ st.deeds)) e
        (consumer_keeps shape st.config st.deeds st.side st.progresses coherent.ranges coherent.legal coherent.rests coherent.count coherent.stands f clean_stands).goes.legal

-- the exchange is tried where the word awaits the acknowledgements
pub tried_awaits : (w to : SlotState) → reap_at w true ≡ Attempt to → awaits w.code ≡ true
tried_awaits w to e = go (awaits w.code) e
  where
    go : (b : Bool) → (if b && true then Attempt (released w.issue) else Idle) ≡ Attempt to → b ≡ true
    go true e = refl
    go false e = absurd (cc (e))

-- it is not tried where it awaits none
pub untried_awaits : (w : SlotState) → ((to : SlotState) → reap_at w true ≢ Attempt to) → awaits w.code ≡ false
untried_awaits w never = go (awaits w.code) never
  where
    go : (b : Bool) → ((to : SlotState) → (if b && true then Attempt (released w.issue) else Idle) ≢ Attempt to) → b ≡ false
    go false never = refl
    go true never = absurd (never (released w.issue) refl)

-- the number that an index reads
pub number_there : (ns : List ℕ) (count i n is : ℕ) → length ns ≡ count → i < count → n ≡ get_or ns i n → slice_get ns i ≡ Some is → n ≡ is
number_there ns count i n is e lt read there =
    let got : slice_get ns i ≡ Some n = slice_get_read ns count i n (sym e) lt read in
    let both : Some n ≡ Some is = sym got ∙ there in
    cc

-- what the deeds of a clean are after a slot
next_deeds : (k : Config) (h : List Deed) (side : ConsumerProgress) (all : List CpuProgress) (s n : ℕ) (ds : List Deed) → (next_slot k h side all s ds n).deeds ≡ ds
next_deeds k h side all s n ds = go (s == k.nspec)
  where
    go : (b : Bool) → (if◌then◌else◌ {A = ConsumerStep} b (stops k h side all ds (answer.Cleaned n)) (keeps_on k h side all ds (consumer.CleanLoad (s + 1) n))).deeds ≡ ds
    go true = refl
    go false = refl

-- the release of a clean's exchange is legal
pub reap_legal : (shape : ℕ → Option Shape) (st : PlayState) (coherent : IsCoherent shape st) (s n : ℕ) (w : SlotState) → st.side.flight ≡ Some (consumer.CleanReap s w n)
    → same_word (word_at s st.deeds) w ≡ true
    → IsAllowed shape st.config (Release s ∷ st.deeds)
reap_legal shape st coherent s n w is same =
    let step : consumer_step st.config st.deeds st.side st.progresses (consumer.CleanReap s w n) ≡ next_slot st.config st.deeds st.side st.progresses s (Release s ∷ []) (n + 1) = rw same refl in
    subst (λ (ds : List Deed). IsAllowed shape st.config (ds ++ st.deeds)) (next_deeds st.config st.deeds st.side st.progresses s (n + 1) (Release s ∷ []))
    (clean_legal shape st coherent (consumer.CleanReap s w n) is _ step)
