-- What begins a call and what steps keep a machine that is kept.
use Rattle.std.proofs.Common.{arith, ◌≡◌, ℕ, ◌<◌, Bool, true, List, Option, Some, None, sym, ◌∙◌, subst}
use Rattle.std.proofs.lemmas.Bool.Decides.{nat_tests}
use Rattle.dspec_core.specs.Words.{Shape, Record, Piece, consumer_op_of, record_passes, is_about, PlayState, IsCoherent, progress_of, IsShownMachine, Makes, ConsumerMakes, history, state_of}
use Rattle.dspec_core.specs.Words.{cpu_step, consumer_step, begin_cpu, moved_to, cleaned_to, WorldInvariant, IsWithin, Answer, CpuOp, CpuProgress, ConsumerFlight, CallPlace}
use Rattle.dspec_core.specs.declared.machine.Machine.{Machine}
use Rattle.dspec_interleaving.specs.declared.flight.CallPlace.TheVariants as flight
use Rattle.dspec_interleaving.proofs.{Coherence.begin_cpu_coherent, Coherence.step_cpu_coherent, Coherence.step_consumer_coherent, FlightsStay.flights_stay, KeptCalls.AllPass, KeptCalls.some_passes}
use Rattle.dspec_interleaving.proofs.{KeptCalls.set_passes, KeptCalls.step_passes, KeptCalls.clean_goes, OwnAnswersPlay.put}
use Rattle.dspec_core.proofs.Within.{AllWithin, cpu_within, consumer_within}

module _ {S B : Type 0} (has : B → S → List Piece → Type 0) (capacity : B → ℕ) (shape_of : S → ℕ → Option Shape) (accepted : S → Record → Bool) where
  -- the record of a call, if it has one, is accepted
  abbrev pub IsFit : S → CpuOp → Type 0
  IsFit schema o = record_passes (accepted schema) o ≡ true

  -- what is kept of a play's state
  pub record KeepsState (schema : S) (st : PlayState) : Type 0 where
    pub coherent : IsCoherent (shape_of schema) st
    pub accepted_records : AllPass (IsFit schema) st.config.cpus st.progresses
    pub within : AllWithin st
    pub about : (f : ConsumerFlight) → st.side.flight ≡ Some f → is_about st.config (consumer_op_of f) ≡ true

  pub state_kept : (m : Machine S B) → WorldInvariant has capacity shape_of accepted m → KeepsState m.schema (state_of m)
  state_kept m was = record { coherent = was.coherent; accepted_records = was.accepted_records; within = was.within; about = was.about }

  -- a machine that shows its list and whose state is kept
  pub kept_as : (m : Machine S B) (schema : S) (st : PlayState) → IsShownMachine has capacity m → state_of m ≡ st → m.schema ≡ schema → KeepsState schema st
      → WorldInvariant has capacity shape_of accepted m
  kept_as m schema st shown state same keeps = grind (arith, nat_tests)

  -- a call of a CPU that begins
  pub begin_keeps : (schema : S) (st : PlayState) (c : ℕ) (o : CpuOp) → c < st.config.cpus → (progress_of st.progresses c).flight ≡ None
      → record_passes (accepted schema) o ≡ true → KeepsState schema st → KeepsState schema (begin_cpu c o st)
  begin_keeps schema st c o lt idle passes was = record {
    coherent = begin_cpu_coherent (shape_of schema) st c o was.coherent lt idle;
    accepted_records = set_passes (IsFit schema) st.config.cpus st.progresses c _ was.coherent.count was.accepted_records (some_passes (IsFit schema) (flight.Begun o) passes);
    within = put st.config.cpus (λ b (x : CpuProgress). IsWithin st.config b st.deeds x.flight) st.progresses c (record (progress_of st.progresses c) { flight = Some (flight.Begun o); steps = 0 })
        was.coherent.count (λ b less other. was.within b less) (λ less. subst (λ x. IsWithin st.config c st.deeds x) idle (was.within c less));
    about = was.about;
  }

  -- a step of a CPU
  pub cpu_keeps : (schema : S) (st : PlayState) (c : ℕ) (f : CallPlace) → c < st.config.cpus → (progress_of st.progresses c).flight ≡ Some f → KeepsState schema st
      → KeepsState schema (moved_to st c (cpu_step (shape_of schema) st.config c st.deeds (progress_of st.progresses c) f)).state
  cpu_keeps schema st c f lt is was = record {
    coherent = step_cpu_coherent (shape_of schema) st c (Some f) was.coherent lt is;
    accepted_records = set_passes (IsFit schema) st.config.cpus st.progresses c _ was.coherent.count was.accepted_records
        (step_passes (IsFit schema) (shape_of schema) st.config c st.deeds (progress_of st.progresses c) f (was.accepted_records c f lt is));
    within = cpu_within (shape_of schema) st was.coherent was.within c f lt is;
    about = was.about;
  }

  -- a step of the consumer
  pub consumer_keeps_state : (schema : S) (st : PlayState) (f : ConsumerFlight) → st.side.flight ≡ Some f → KeepsState schema st
      → KeepsState schema (cleaned_to st (consumer_step st.config st.deeds st.side st.progresses f)).state
  consumer_keeps_state schema st f is was = record {
    coherent = step_consumer_coherent (shape_of schema) st (Some f) was.coherent is;
    accepted_records = λ c g lt now. was.accepted_records c g lt (sym (flights_stay st.config st.deeds st.side st.progresses was.coherent.count f c lt) ∙ now);
    within = consumer_within (shape_of schema) st was.coherent was.within f is;
    about = clean_goes (λ o. is_about st.config o ≡ true) st.config st.deeds st.side st.progresses f (was.about f is);
  }

  -- a machine of which a step of a CPU is made
  pub made_kept : (m n : Machine S B) (c : ℕ) (f : CallPlace) (a : Option Answer) → WorldInvariant has capacity shape_of accepted m → c < m.config.cpus
      → (progress_of (state_of m).progresses c).flight ≡ Some f
      → Makes has capacity m n c (cpu_step (shape_of m.schema) m.config c (history m) (progress_of (state_of m).progresses c) f) a → WorldInvariant has capacity shape_of accepted n
  made_kept m n c f a was lt is made = kept_as n m.schema _ made.shown made.state made.schema (cpu_keeps m.schema (state_of m) c f lt is (state_kept m was))

  -- a machine of which a step of the consumer is made
  pub cleaned_kept : (m n : Machine S B) (f : ConsumerFlight) (a : Option Answer) → WorldInvariant has capacity shape_of accepted m → m.consumer.flight ≡ Some f
      → ConsumerMakes has capacity m n (consumer_step m.config (history m) m.consumer (state_of m).progresses f) a → WorldInvariant has capacity shape_of accepted n
  cleaned_kept m n f a was is made = kept_as n m.schema _ made.shown made.state made.schema (consumer_keeps_state m.schema (state_of m) f is (state_kept m was))
