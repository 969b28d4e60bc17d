-- The steps of the call in flight: below its bound, and one more at each step after which it goes on; else the step ends the call.
use Rattle.std.proofs.Common.{◌≡◌, ◌⊎◌, inl, inr, ℕ, ◌+◌, ◌<◌, ◌≤◌, true, false, List, Option, Some, None, refl, sym, ap, ◌∙◌, subst, ⊎_elim, arith}
use Rattle.std.proofs.lemmas.{Bool.Decides.nat_tests, List.get_or-set_same}
use Rattle.std.specs.Prelude.{Result, Ok, Err, IfOk, is_none, slice_set}
use Rattle.dspec_interleaving.specs.Words.{Shape, Config, Actor, Answer, cpu_limit, consumer_limit, steps_limit, flight_bound, clean_bound, is_actor, is_idle, steps_of, op_of, consumer_op_of}
use Rattle.dspec_interleaving.specs.Words.{cpu_call_of, consumer_call_of, call_of, Stepped, StandsProgress, StandsState, progress_of, PlayState, IsCoherent, idle_progress, cpu_step, consumer_step}
use Rattle.dspec_interleaving.specs.Words.{step_cpu, step_consumer, step, Deed}
use Rattle.dspec_interleaving.specs.declared.flight.{CallPlace.CallPlace, ConsumerFlight.ConsumerFlight, ConsumerProgress.ConsumerProgress, CpuProgress.CpuProgress}
use Rattle.dspec_deeds.specs.declared.calls.Actor.TheVariants as actor
use Rattle.dspec_deeds.specs.declared.calls.Op.TheVariants as op
use Rattle.dspec_interleaving.proofs.{Bounded.cpu_below, Bounded.clean_below, FlightsStay.clean_advances, StepEnds.HasEnded, StepEnds.HasGoneOn, StepEnds.HasClosed, StepEnds.HasKeptOn}
use Rattle.dspec_interleaving.proofs.{WornCpuSteps.cpu_advances}
use Rattle.dspec_deeds.proofs.SetUp.{set_up}

-- a CPU that there is
pub is_below : (k : Config) (c : ℕ) → is_actor k (actor.Cpu c) ≡ true → c < k.cpus
is_below k c e = grind (arith, nat_tests)

cpu_few : (k : Config) (c : ℕ) (h : List Deed) (me : CpuProgress) (f : Option CallPlace) → 1 ≤ k.nspec → StandsProgress k c h me f → me.steps < cpu_limit k f
cpu_few k c h me None some at = let none = at.1 in omega arith
cpu_few k c h me (Some f) some at = cpu_below k c h me some f at

clean_few : (k : Config) (h : List Deed) (side : ConsumerProgress) (f : Option ConsumerFlight) → 1 ≤ k.nspec → StandsState k h side f → side.steps < consumer_limit k f
clean_few k h side None some at = omega arith
clean_few k h side (Some f) some at = clean_below k h side some f at

-- the call in flight has made fewer steps than its bound
pub steps_below : (shape : ℕ → Option Shape) (st : PlayState) (a : Actor) → IsCoherent shape st → is_actor st.config a ≡ true → steps_of a st < steps_limit a st
steps_below shape st (actor.Cpu c) ok there =
    cpu_few st.config c st.deeds (progress_of st.progresses c) (progress_of st.progresses c).flight (set_up st.config ok.ranges).1 (ok.stands c (is_below st.config c there)).flight
steps_below shape st actor.Consumer ok there = clean_few st.config st.deeds st.side st.side.flight (set_up st.config ok.ranges).1 ok.side

-- the step ends the actor's call
pub record Ends (a : Actor) (s : Stepped) : Type 0 where
  pub told : Answer
  pub answers : s.answer ≡ Some told
  pub idle : is_idle a s.state ≡ true

-- the actor's call goes on, with one step more and the same bound
pub record StaysOn (a : Actor) (st : PlayState) (s : Stepped) : Type 0 where
  pub answers : s.answer ≡ None
  pub busy : is_idle a s.state ≡ false
  pub call : call_of a s.state ≡ call_of a st
  pub limit : steps_limit a s.state ≡ steps_limit a st
  pub counted : steps_of a s.state ≡ steps_of a st + 1

-- a step of an actor ends its call, or the call goes on
pub step_ends : (shape : ℕ → Option Shape) (st : PlayState) (a : Actor) → IsCoherent shape st → is_actor st.config a ≡ true → is_idle a st ≡ false
    → Ends a (step shape a st) ⊎ StaysOn a st (step shape a st)
step_ends shape st (actor.Cpu c) ok there busy = go (progress_of st.progresses c).flight refl busy
  where
    go : (x : Option CallPlace) → (progress_of st.progresses c).flight ≡ x → is_none x ≡ false → Ends (actor.Cpu c) (step_cpu shape c st x) ⊎ StaysOn (actor.Cpu c) st (step_cpu shape c st x)
    go None is b = absurd (cc (b))
    go (Some f) is b =
        let m = cpu_step shape st.config c st.deeds (progress_of st.progresses c) f in
        let lt = is_below st.config c there in
        let here : progress_of (slice_set st.progresses c m.progress) c ≡ m.progress = get_or-set_same st.progresses c m.progress idle_progress (let count = ok.count in omega arith) in
        let flight = ap (λ (x : CpuProgress). x.flight) here in
        ⊎_elim
        (λ (e : HasEnded m). inl record { told = e.told; answers = e.answers; idle = ap (λ (y : Option CallPlace). is_none y) (flight ∙ e.idle) })
        (λ (g : HasGoneOn st.config (progress_of st.progresses c) (flight_bound st.config f) (op_of f) m). inr record {
          answers = g.answers;
          busy = ap (λ (y : Option CallPlace). is_none y) (flight ∙ g.flight);
          call = ap cpu_call_of (flight ∙ g.flight) ∙ ap op.Cpu g.call ∙ sym (ap cpu_call_of is);
          limit = ap (cpu_limit st.config) (flight ∙ g.flight) ∙ g.bound ∙ sym (ap (cpu_limit st.config) is);
          counted = ap (λ (x : CpuProgress). x.steps) here ∙ g.counted;
        })
        (cpu_advances shape st.config c st.deeds (progress_of st.progresses c) f)
step_ends shape st actor.Consumer ok there busy = go st.side.flight refl busy
  where
    go : (x : Option ConsumerFlight) → st.side.flight ≡ x → is_none x ≡ false → Ends actor.Consumer (step_consumer shape st x) ⊎ StaysOn actor.Consumer st (step_consumer shape st x)
    go None is b = absurd (cc (b))
    go (Some f) is b =
        let m = consumer_step st.config st.deeds st.side st.progresses f in
        ⊎_elim
        (λ (e : HasClosed m). inl record { told = e.told; answers = e.answers; idle = ap (λ (y : Option ConsumerFlight). is_none y) e.idle })
        (λ (g : HasKeptOn st.config st.side (clean_bound st.config f) (consumer_op_of f) m). inr record {
          answers = g.answers;
          busy = ap (λ (y : Option ConsumerFlight). is_none y) g.flight;
          call = ap consumer_call_of g.flight ∙ ap op.Consumer g.call ∙ sym (ap consumer_call_of is);
          limit = ap (consumer_limit st.config) g.flight ∙ g.bound ∙ sym (ap (consumer_limit st.config) is);
          counted = g.counted;
        })
        (clean_advances st.config st.deeds st.side st.progresses f)

-- a step after which the call goes on is counted
step_counted : (shape : ℕ → Option Shape) (st : PlayState) (a : Actor) → IsCoherent shape st → is_actor st.config a ≡ true → is_idle a st ≡ false
    → (step shape a st).answer ≡ None → steps_of a (step shape a st).state ≡ steps_of a st + 1
step_counted shape st a ok there busy none = ⊎_elim (λ (e : Ends a (step shape a st)). let some = e.answers in absurd (cc (some, none))) (λ (g : StaysOn a st (step shape a st)). g.counted)
    (step_ends shape st a ok there busy)

-- the same, of a step that a machine makes or a refused growth prevents
pub made_counted : {E : Type 0} (shape : ℕ → Option Shape) (at st new : PlayState) (a b : Actor) (r : Result (Option Answer) E)
    → at ≡ st → a ≡ b → IsCoherent shape at → is_actor st.config a ≡ true → is_idle a st ≡ false
    → IfOk r (λ _. new ≡ (step shape b at).state) → IfOk r (λ x. x ≡ (step shape b at).answer) → IfOk r (λ x. x ≡ None → steps_of a new ≡ steps_of a st + 1)
made_counted shape at st new a b (Err x) same who ok there busy moved answered = tt
made_counted shape at st new a b (Ok x) same who ok there busy moved answered =
    let Counts : Actor → PlayState → Type 0 = λ d s. is_actor s.config d ≡ true → is_idle d s ≡ false → steps_of d new ≡ steps_of d s + 1 in
    λ none. subst (λ s. Counts a s) same (subst (λ d. Counts d at) (sym who) (λ t i. ap (steps_of b) moved ∙ step_counted shape at b ok t i (sym answered ∙ none))) there busy
