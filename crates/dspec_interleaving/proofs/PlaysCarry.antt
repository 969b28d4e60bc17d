-- What each begin and each step keeps holds of a whole play.
use Rattle.std.proofs.Common.{◌≡◌, ℕ, zero, suc, ◌+◌, ◌<◌, ◌≤◌, Bool, true, false, not, List, [], ◌∷◌, ◌++◌, Option, Some, None, if◌then◌else◌, refl, sym, ap, ◌∙◌, subst, arith}
use Rattle.std.proofs.lemmas.Bool.Decides.{nat_tests}
use Rattle.std.specs.Prelude.{nat_lt, is_none}
use Rattle.dspec_interleaving.specs.Words.{Shape, Record, most_steps, op_of, consumer_op_of, record_passes, is_about, is_actor, is_idle, begin_cpu_fault, begin_consumer_fault, PlayState}
use Rattle.dspec_interleaving.specs.Words.{progress_of, cpu_step, consumer_step, start_fault, moved_to, cleaned_to, step_cpu, Playing, with_note, with_entered, playing_at_start, begun_cpu}
use Rattle.dspec_interleaving.specs.Words.{begun_consumer, cpu_stepped, stepped, to_end, ran, turned, all_turned, cpus_ran, all_ran, played, begin_refusal, step_refusal, or_else, setup_fault}
use Rattle.dspec_interleaving.specs.Words.{refusal, turn_fault, play_fault, Config, StartFault, Actor, ConsumerOp, CpuOp, Turn, BeginCpu, BeginConsumer, Step, RunCpu, RunConsumer}
use Rattle.dspec_interleaving.specs.declared.{flight.CallPlace.CallPlace, flight.ConsumerFlight.ConsumerFlight, outcome.PlayFault.PlayFault, refusal.BeginFault.BeginFault}
use Rattle.dspec_deeds.specs.declared.calls.Actor.TheVariants as actor
use Rattle.dspec_deeds.specs.declared.calls.Op.TheVariants as op
use Rattle.dspec_interleaving.specs.declared.refusal.BeginFault.TheVariants as begin_fault
use Rattle.dspec_interleaving.specs.declared.refusal.StepFault.TheVariants as step_fault
use Rattle.dspec_interleaving.proofs.Tests.{is_nothing, passes}

module _ (shape : ℕ → Option Shape) where
  -- a play after a step of a CPU's call in flight
  abbrev pub after_cpu_step : ℕ → Playing → CallPlace → Playing
  after_cpu_step c p f =
      let m = cpu_step shape p.state.config c p.state.deeds (progress_of p.state.progresses c) f in
      record p {
        state = (moved_to p.state c m).state;
        entered = with_entered c (m.deeds ++ p.entered c) p.entered;
        noted = with_note (actor.Cpu c) (op.Cpu (op_of f)) (m.deeds ++ p.entered c) p.state m.answer p.noted;
      }

  -- a play after a step of the consumer's call in flight
  abbrev pub after_consumer_step : Playing → ConsumerFlight → Playing
  after_consumer_step p f =
      let m = consumer_step p.state.config p.state.deeds p.state.side p.state.progresses f in
      record p {
        state = (cleaned_to p.state m).state;
        cleaned = m.deeds ++ p.cleaned;
        noted = with_note actor.Consumer (op.Consumer (consumer_op_of f)) (m.deeds ++ p.cleaned) p.state m.answer p.noted;
      }

  -- a step of a CPU's call in flight
  pub cpu_stepped_is : (c : ℕ) (p : Playing) (f : CallPlace) → (progress_of p.state.progresses c).flight ≡ Some f → stepped shape (actor.Cpu c) p ≡ after_cpu_step c p f
  cpu_stepped_is c p f is =
      ap (λ (x : Option CallPlace). cpu_stepped shape c p x) is
      ∙ ap (λ (x : Option CallPlace).
      let m = cpu_step shape p.state.config c p.state.deeds (progress_of p.state.progresses c) f in
      record p {
        state = (step_cpu shape c p.state x).state;
        entered = with_entered c (m.deeds ++ p.entered c) p.entered;
        noted = with_note (actor.Cpu c) (op.Cpu (op_of f)) (m.deeds ++ p.entered c) p.state (step_cpu shape c p.state x).answer p.noted;
      }) is

  -- a step of the consumer's call in flight
  pub consumer_stepped_is : (p : Playing) (f : ConsumerFlight) → p.state.side.flight ≡ Some f → stepped shape actor.Consumer p ≡ after_consumer_step p f
  consumer_stepped_is p f is = rw is refl

  -- a step of an actor with no call in flight
  pub idle_stepped : (a : Actor) (p : Playing) → is_idle a p.state ≡ true → stepped shape a p ≡ p
  idle_stepped (actor.Cpu c) p idle = rw (is_nothing (progress_of p.state.progresses c).flight idle) refl
  idle_stepped actor.Consumer p idle = rw (is_nothing p.state.side.flight idle) refl

  -- what each step keeps
  pub record IsCarried (k : Config) (P : Playing → Type 0) : Type 0 where
    pub config : (p : Playing) → P p → p.state.config ≡ k
    pub cpu_steps : (c : ℕ) (p : Playing) (f : CallPlace) → P p → c < k.cpus → (progress_of p.state.progresses c).flight ≡ Some f → P (after_cpu_step c p f)
    pub consumer_steps : (p : Playing) (f : ConsumerFlight) → P p → p.state.side.flight ≡ Some f → P (after_consumer_step p f)

  -- what each begin and each step keeps
  pub record PlayInvariant (k : Config) (P : Playing → Type 0) : Type 0 where
    pub steps : IsCarried k P
    pub cpu_begins : (c : ℕ) (o : CpuOp) (p : Playing) → P p → c < k.cpus → (progress_of p.state.progresses c).flight ≡ None → P (begun_cpu c o p)
    pub consumer_begins : (o : ConsumerOp) (p : Playing) → P p → is_about k o ≡ true → p.state.side.flight ≡ None → P (begun_consumer o p)

-- a refused turn is no play
taken : (x y : Option PlayFault) → or_else x y ≡ None → (x ≡ None) × (y ≡ None)
taken None y e = (refl, e)
taken (Some f) y e = absurd (cc (e))

-- a begin or a setup with no refusal has no fault
begins : (i : ℕ) (x : Option BeginFault) → begin_refusal i x ≡ None → x ≡ None
begins i None e = refl
begins i (Some begin_fault.Busy) e = absurd (cc (e))
begins i (Some fault) e = absurd (cc (e))

starts : (x : Option StartFault) → setup_fault x ≡ None → x ≡ None
starts None e = refl
starts (Some f) e = absurd (cc (e))

-- a number that passes the test is below
below : (a b : ℕ) → nat_lt a b ≡ true → a < b
below a b e = grind (arith, nat_tests)

-- a begin or a step that isn't refused
cpu_may_begin : (accepts : Record → Bool) (c : ℕ) (o : CpuOp) (st : PlayState) → begin_cpu_fault accepts c o st ≡ None → (c < st.config.cpus) × ((progress_of st.progresses c).flight ≡ None)
cpu_may_begin accepts c o st e =
    let one = passes (nat_lt c st.config.cpus) begin_fault.NoSuchActor _ e in
    let two = passes (is_idle (actor.Cpu c) st) begin_fault.Busy (if not (record_passes accepts o) then Some begin_fault.BadRecord else None) one.1 in
    (below c st.config.cpus one.0, is_nothing (progress_of st.progresses c).flight two.0)

consumer_may_begin : (o : ConsumerOp) (st : PlayState) → begin_consumer_fault o st ≡ None → (is_about st.config o ≡ true) × (st.side.flight ≡ None)
consumer_may_begin o st e =
    let one = passes (is_about st.config o) begin_fault.NoSuchActor _ e in
    let two = passes (is_idle actor.Consumer st) begin_fault.Busy None one.1 in
    (one.0, is_nothing st.side.flight two.0)

-- the actor of a step that isn't refused is there
may_step : (i : ℕ) (there idle : Bool) → step_refusal i (if not there then Some step_fault.NoSuchActor else if idle then Some step_fault.IdleStep else None) ≡ None → there ≡ true
may_step i true idle e = refl
may_step i false idle e = absurd (cc (e))

module _ (shape : ℕ → Option Shape) (k : Config) (P : Playing → Type 0) (carries : IsCarried shape k P) where
  -- a step of an actor
  pub step_carries : (a : Actor) (p : Playing) → P p → is_actor k a ≡ true → P (stepped shape a p)
  step_carries (actor.Cpu c) p was there = go (progress_of p.state.progresses c).flight refl
    where
      go : (x : Option CallPlace) → (progress_of p.state.progresses c).flight ≡ x → P (stepped shape (actor.Cpu c) p)
      go None e = subst P (sym (idle_stepped shape (actor.Cpu c) p (ap (λ (y : Option CallPlace). is_none y) e))) was
      go (Some f) e = subst P (sym (cpu_stepped_is shape c p f e)) (carries.cpu_steps c p f was (below c k.cpus there) e)
  step_carries actor.Consumer p was there = go p.state.side.flight refl
    where
      go : (x : Option ConsumerFlight) → p.state.side.flight ≡ x → P (stepped shape actor.Consumer p)
      go None e = subst P (sym (idle_stepped shape actor.Consumer p (ap (λ (y : Option ConsumerFlight). is_none y) e))) was
      go (Some f) e = subst P (sym (consumer_stepped_is shape p f e)) (carries.consumer_steps p f was e)

  -- one or the other
  unless : (b : Bool) (p q : Playing) (on : Playing → Playing) → P p → (P q → P (on q)) → P q → P (if b then p else on q)
  unless true p q on was next now = was
  unless false p q on was next now = next now

  -- steps of an actor up to the end of its call
  to_end_carries : (n : ℕ) (a : Actor) (p : Playing) → P p → is_actor k a ≡ true → P (to_end shape n a p)
  to_end_carries zero a p was there = was
  to_end_carries (suc n) a p was there = unless (is_idle a p.state) p (stepped shape a p) (to_end shape n a) was (λ q. to_end_carries n a (stepped shape a p) q there) (step_carries a p was there)

  -- an actor's call up to its end
  pub ran_carries : (a : Actor) (p : Playing) → P p → is_actor k a ≡ true → P (ran shape a p)
  ran_carries a p was there = to_end_carries (most_steps p.state.config a) a p was there

  -- the first CPUs' calls up to their ends
  pub cpus_ran_carries : (n : ℕ) (p : Playing) → P p → n ≤ k.cpus → P (cpus_ran shape n p)
  cpus_ran_carries zero p was le = was
  cpus_ran_carries (suc n) p was le =
      let fewer : n ≤ k.cpus = omega arith in
      let there : nat_lt n k.cpus ≡ true = grind (arith, nat_tests) in
      ran_carries (actor.Cpu n) (cpus_ran shape n p) (cpus_ran_carries n p was fewer) there

  -- all calls up to their ends
  pub all_ran_carries : (p : Playing) → P p → P (all_ran shape p)
  all_ran_carries p was =
      let same = ap (λ (x : Config). x.cpus) (carries.config p was) in
      let le : p.state.config.cpus ≤ k.cpus = omega arith in
      ran_carries actor.Consumer (cpus_ran shape p.state.config.cpus p) (cpus_ran_carries p.state.config.cpus p was le) refl

module _ (shape : ℕ → Option Shape) (accepts : Record → Bool) (k : Config) (P : Playing → Type 0) (keeps : PlayInvariant shape k P) where
  -- what a begin of a turn that isn't refused gives
  cpu_may : (c : ℕ) (o : CpuOp) (p : Playing) → P p → begin_cpu_fault accepts c o p.state ≡ None → (c < k.cpus) × ((progress_of p.state.progresses c).flight ≡ None)
  cpu_may c o p was e =
      let may = cpu_may_begin accepts c o p.state e in
      (subst (λ (x : Config). c < x.cpus) (keeps.steps.config p was) may.0, may.1)

  consumer_may : (o : ConsumerOp) (p : Playing) → P p → begin_consumer_fault o p.state ≡ None → (is_about k o ≡ true) × (p.state.side.flight ≡ None)
  consumer_may o p was e =
      let may = consumer_may_begin o p.state e in
      (subst (λ (x : Config). is_about x o ≡ true) (keeps.steps.config p was) may.0, may.1)

  -- a turn that isn't refused
  turn_carries : (i : ℕ) (t : Turn) (p : Playing) → P p → refusal shape accepts i t p.state ≡ None → P (turned shape t p)
  turn_carries i (BeginCpu c o) p was e = let may = cpu_may c o p was (begins i _ e) in keeps.cpu_begins c o p was may.0 may.1
  turn_carries i (BeginConsumer o) p was e = let may = consumer_may o p was (begins i _ e) in keeps.consumer_begins o p was may.0 may.1
  turn_carries i (Step a) p was e =
      step_carries shape k P keeps.steps a p was (subst (λ (x : Config). is_actor x a ≡ true) (keeps.steps.config p was) (may_step i (is_actor p.state.config a) (is_idle a p.state) e))
  turn_carries i (RunCpu c o) p was e =
      let may = cpu_may c o p was (begins i _ e) in
      let there : nat_lt c k.cpus ≡ true = let lt = may.0 in grind (arith, nat_tests) in
      ran_carries shape k P keeps.steps (actor.Cpu c) (begun_cpu c o p) (keeps.cpu_begins c o p was may.0 may.1) there
  turn_carries i (RunConsumer o) p was e =
      let may = consumer_may o p was (begins i _ e) in
      ran_carries shape k P keeps.steps actor.Consumer (begun_consumer o p) (keeps.consumer_begins o p was may.0 may.1) refl

  -- turns none of which is refused
  turns_carry : (i : ℕ) (ts : List Turn) (p : Playing) → P p → turn_fault shape accepts i ts p ≡ None → P (all_turned shape ts p)
  turns_carry i [] p was e = was
  turns_carry i (t ∷ ts) p was e =
      let both = taken (refusal shape accepts i t p.state) _ e in
      turns_carry (i + 1) ts (turned shape t p) (turn_carries i t p was both.0) both.1

  -- a whole play
  pub play_carries : (ts : List Turn) → (start_fault k ≡ None → P (playing_at_start k)) → play_fault shape accepts k ts ≡ None → P (played shape k ts)
  play_carries ts start e =
      let both = taken (setup_fault (start_fault k)) _ e in
      all_ran_carries shape k P keeps.steps (all_turned shape ts (playing_at_start k)) (turns_carry 0 ts (playing_at_start k) (start (starts (start_fault k) both.0)) both.1)
