-- Every turn keeps a play coherent.
use Rattle.std.proofs.Common.{◌≡◌, ℕ, zero, suc, ◌<◌, [], ◌++◌, length, Option, Some, None, refl, sym, ap, ◌∙◌, subst, arith}
use Rattle.std.proofs.lemmas.List.{length-set}
use Rattle.dspec_interleaving.specs.Words.{Shape, Config, Actor, Answer, ConsumerOp, CpuOp, cpu_step, start_fault, StandsProgress, StandsState, PushesNext, ProgressStands, progress_of, PlayState}
use Rattle.dspec_interleaving.specs.Words.{IsCoherent, idle_progress, idle_cpus, at_start, begin_cpu, begin_consumer, step_cpu, step_consumer, step, on_to_end}
use Rattle.dspec_interleaving.specs.declared.flight.{CallPlace.CallPlace, ConsumerFlight.ConsumerFlight, Spare.Spare}
use Rattle.dspec_deeds.specs.declared.calls.Actor.TheVariants as actor
use Rattle.dspec_interleaving.specs.declared.flight.CallPlace.TheVariants as cpu
use Rattle.dspec_interleaving.specs.declared.flight.Spare.TheVariants as spare
use Rattle.dspec_interleaving.proofs.{ConsumerSteps.consumer_keeps, CpuSteps.cpu_step_stands, OthersStand.others_stand, Replacing.put, StateStands.side_stands}
use Rattle.dspec_deeds.proofs.Going.{authors_go_on}

-- a CPU of the session, or the consumer
abbrev pub IsActor : Config → Actor → Type 0
IsActor k (actor.Cpu c) = c < k.cpus
IsActor k actor.Consumer = Unit {0}

-- no call is in flight before the first turn
pub idle_at : (n c : ℕ) → progress_of (idle_cpus n) c ≡ idle_progress
idle_at zero c = refl
idle_at (suc n) zero = refl
idle_at (suc n) (suc c) = idle_at n c

idle_count : (n : ℕ) → length (idle_cpus n) ≡ n
idle_count zero = refl
idle_count (suc n) = ap suc (idle_count n)

-- a play is coherent before its first turn
pub start_coherent : (shape : ℕ → Option Shape) (k : Config) → start_fault k ≡ None → IsCoherent shape (at_start k)
start_coherent shape k fine = record {
  ranges = fine;
  count = idle_count k.cpus;
  legal = (tt, tt);
  authors = tt;
  rests = refl;
  stands = λ c lt. subst (ProgressStands k c []) (sym (idle_at k.cpus c)) record { flight = (refl, refl); counts = (refl, refl); pushes = tt; want = omega arith };
  side = refl;
}

-- where no call is in flight no sealed batch waits for its push
pushes_any : (place : Spare) (next : Option CallPlace) → PushesNext place None → PushesNext place next
pushes_any spare.Sealed next p = absurd (cc (p))
pushes_any place next p = tt

-- a call of a CPU that begins
pub begin_cpu_coherent : (shape : ℕ → Option Shape) (st : PlayState) (c : ℕ) (o : CpuOp) → IsCoherent shape st → c < st.config.cpus → (progress_of st.progresses c).flight ≡ None
    → IsCoherent shape (begin_cpu c o st)
begin_cpu_coherent shape st c o ok lt idle =
    let me = progress_of st.progresses c in
    let was = ok.stands c lt in
    let rest = subst (StandsProgress st.config c st.deeds me) idle was.flight in
    let now : ProgressStands st.config c st.deeds (record me { flight = Some (cpu.Begun o); steps = 0 }) = record {
      flight = (rest.0, refl);
      counts = was.counts;
      pushes = pushes_any me.spare (Some (cpu.Begun o)) (subst (PushesNext me.spare) idle was.pushes);
      want = was.want;
    } in
    record {
      ranges = ok.ranges;
      count = length-set st.progresses c _ ∙ ok.count;
      legal = ok.legal;
      authors = ok.authors;
      rests = ok.rests;
      stands = put st.config.cpus (λ b x. ProgressStands st.config b st.deeds x) st.progresses c _ ok.count (λ b less apart. ok.stands b less) (λ less. now);
      side = ok.side;
    }

-- a call of the consumer that begins
pub begin_consumer_coherent : (shape : ℕ → Option Shape) (st : PlayState) (o : ConsumerOp) → IsCoherent shape st → IsCoherent shape (begin_consumer o st)
begin_consumer_coherent shape st o ok = record { ranges = ok.ranges; count = ok.count; legal = ok.legal; authors = ok.authors; rests = ok.rests; stands = ok.stands; side = refl }

module _ (shape : ℕ → Option Shape) where
  -- a step leaves the configuration
  pub step_config : (a : Actor) (st : PlayState) → (step shape a st).state.config ≡ st.config
  step_config (actor.Cpu c) st = go (progress_of st.progresses c).flight
    where
      go : (f : Option CallPlace) → (step_cpu shape c st f).state.config ≡ st.config
      go None = refl
      go (Some f) = refl
  step_config actor.Consumer st = go st.side.flight
    where
      go : (f : Option ConsumerFlight) → (step_consumer shape st f).state.config ≡ st.config
      go None = refl
      go (Some f) = refl

  pub step_cpu_coherent : (st : PlayState) (c : ℕ) (f : Option CallPlace) → IsCoherent shape st → c < st.config.cpus → (progress_of st.progresses c).flight ≡ f
      → IsCoherent shape (step_cpu shape c st f).state
  step_cpu_coherent st c None ok lt is = ok
  step_cpu_coherent st c (Some f) ok lt is =
      let k = st.config in
      let h = st.deeds in
      let m = cpu_step shape k c h (progress_of st.progresses c) f in
      let did = cpu_step_stands shape k c h (progress_of st.progresses c) ok.ranges ok.legal ok.rests (ok.stands c lt) f is in
      record {
        ranges = ok.ranges;
        count = length-set st.progresses c m.progress ∙ ok.count;
        legal = did.goes.legal;
        authors = authors_go_on k (actor.Cpu c) m.deeds h (λ a e. let same : c ≡ a = cc in subst (λ x. x < k.cpus) same lt) ok.authors did.goes.by;
        rests = did.goes.rests;
        stands = put k.cpus (λ b x. ProgressStands k b (m.deeds ++ h) x) st.progresses c m.progress ok.count
            (λ b less apart. others_stand shape k (actor.Cpu c) b m.deeds h (progress_of st.progresses b) ok.rests did.goes apart less (ok.stands b less)) (λ less. did.stands);
        side = side_stands shape k c m.deeds h ok.rests did.goes st.side st.side.flight ok.side;
      }

  pub step_consumer_coherent : (st : PlayState) (f : Option ConsumerFlight) → IsCoherent shape st → st.side.flight ≡ f → IsCoherent shape (step_consumer shape st f).state
  step_consumer_coherent st None ok is = ok
  step_consumer_coherent st (Some f) ok is =
      let did = consumer_keeps shape st.config st.deeds st.side st.progresses ok.ranges ok.legal ok.rests ok.count ok.stands f (subst (StandsState st.config st.deeds st.side) is ok.side) in
      record {
        ranges = ok.ranges;
        count = did.count;
        legal = did.goes.legal;
        authors = authors_go_on st.config actor.Consumer _ st.deeds (λ a e. absurd (cc e)) ok.authors
            did.goes.by;
        rests = did.goes.rests;
        stands = did.stand;
        side = did.side;
      }

  -- one atomic step
  pub step_coherent : (a : Actor) (st : PlayState) → IsCoherent shape st → IsActor st.config a → IsCoherent shape (step shape a st).state
  step_coherent (actor.Cpu c) st ok there = step_cpu_coherent st c (progress_of st.progresses c).flight ok there refl
  step_coherent actor.Consumer st ok there = step_consumer_coherent st st.side.flight ok refl

  -- what each step of an actor keeps, a whole call keeps, or as much of it as the number of steps allows
  pub to_end_keeps : (P : PlayState → Type 0) (a : Actor) → ((st : PlayState) → IsCoherent shape st → IsActor st.config a → P st → P (step shape a st).state)
      → (n : ℕ) (st : PlayState) (r : Option Answer) → IsCoherent shape st → IsActor st.config a → P st → P (on_to_end shape n a st r).state
  to_end_keeps P a keeps zero st r ok there p = p
  to_end_keeps P a keeps (suc n) st (Some r) ok there p = p
  to_end_keeps P a keeps (suc n) st None ok there p =
      to_end_keeps P a keeps n (step shape a st).state (step shape a st).answer (step_coherent a st ok there) (subst (λ k. IsActor k a) (sym (step_config a st)) there) (keeps st ok there p)

  pub on_to_end_coherent : (n : ℕ) (a : Actor) (st : PlayState) (r : Option Answer) → IsCoherent shape st → IsActor st.config a → IsCoherent shape (on_to_end shape n a st r).state
  on_to_end_coherent n a st r ok there = to_end_keeps (IsCoherent shape) a (λ x now lt p. step_coherent a x now lt) n st r ok there ok
