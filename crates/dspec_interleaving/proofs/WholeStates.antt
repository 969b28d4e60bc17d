-- What holds between two whole calls.
use Rattle.std.proofs.Common.{◌≡◌, ◌≢◌, ◌≤◌, ◌<◌, ◌⊎◌, inl, inr, ℕ, Bool, true, false, List, [], ◌∷◌, ◌++◌, length, Option, Some, None, if◌then◌else◌, refl, sym, ap, ◌∙◌, subst, ⊎_elim, arith}
use Rattle.std.proofs.Common.{append_assoc}
use Rattle.std.proofs.lemmas.List.{get_or-set_same}
use Rattle.std.specs.Prelude.{nat_lt, slice_set}
use Rattle.dspec_interleaving.specs.Words.{Shape, Speculation, issue, solo, start_fault, seals, IsSound, IsLegal, PlayState, IsCoherent, StandsProgress, progress_of, is_idle, idle_progress}
use Rattle.dspec_interleaving.specs.Words.{answer_of, IsLast, ReleasesThen, Stepped, at_start, begin_cpu, begin_consumer, step, step_cpu, step_consumer, on_to_end, WholeConsumer, is_out, Call}
use Rattle.dspec_interleaving.specs.Words.{of_cpu, of_consumer, once_called, after_all, cpu_call, consumer_call, after_cpu, after_consumer, IsApart, IsCall, AreCalls, IsReleased, op_bound}
use Rattle.dspec_interleaving.specs.Words.{consumer_bound, Config, Actor, Answer, ConsumerOp, CpuOp, DecideFate, Deed, Commit, Discard, Release}
use Rattle.dspec_interleaving.specs.declared.flight.{CallPlace.CallPlace, ConsumerFlight.ConsumerFlight, CpuProgress.CpuProgress}
use Rattle.dspec_deeds.specs.declared.calls.Actor.TheVariants as actor
use Rattle.dspec_deeds.specs.declared.calls.ConsumerOp.TheVariants as consumer_op
use Rattle.dspec_deeds.specs.declared.deed.DecideFate.TheVariants as decided
use Rattle.dspec_interleaving.specs.declared.flight.CallPlace.TheVariants as cpu
use Rattle.dspec_deeds.proofs.{PresentIds.open_is_now, SoundLists.issue_grows, TestLemmas.number_is_itself, WordChanges.discard_open}
use Rattle.dspec_interleaving.proofs.{Coherence.IsActor, Coherence.idle_at, Coherence.start_coherent, Coherence.begin_cpu_coherent, Coherence.begin_consumer_coherent, Coherence.step_config}
use Rattle.dspec_interleaving.proofs.{Coherence.step_coherent, Coherence.to_end_keeps, Coherence.on_to_end_coherent, Replacing.put, SoloRelease.decided_alone, SoloRelease.consumer_decides_none}
use Rattle.dspec_interleaving.proofs.{SoloRelease.released_next, Tests.is_nothing, WholeCalls.cpu_whole, WholeCalls.consumer_whole, WholeEnds.bare, WholeEnds.cpu_ends_as}

-- a list goes on from another
pub record Grows (h now : List Deed) : Type 0 where
  pub deeds : List Deed
  pub is : now ≡ deeds ++ h

pub grows_twice : (a b c : List Deed) → Grows a b → Grows b c → Grows a c
grows_twice a b c x y = record { deeds = y.deeds ++ x.deeds; is = y.is ∙ (ap (λ l. y.deeds ++ l) x.is ∙ sym (append_assoc y.deeds x.deeds a)) }

pub released_stays : (id : Speculation) (h now : List Deed) → Grows h now → IsReleased id h → IsReleased id now
released_stays id h now g r = subst (IsReleased id) (sym g.is) (go g.deeds)
  where
    go : (ds : List Deed) → IsReleased id (ds ++ h)
    go [] = r
    go (d ∷ ds) = let up = issue_grows id.slot d (ds ++ h) in let low = go ds in omega arith

module _ (shape : ℕ → Option Shape) where
  step_grows : (a : Actor) (st : PlayState) → Grows st.deeds (step shape a st).state.deeds
  step_grows (actor.Cpu c) st = go (progress_of st.progresses c).flight
    where
      go : (f : Option CallPlace) → Grows st.deeds (step_cpu shape c st f).state.deeds
      go None = record { deeds = []; is = refl }
      go (Some f) = record { deeds = _; is = refl }
  step_grows actor.Consumer st = go st.side.flight
    where
      go : (f : Option ConsumerFlight) → Grows st.deeds (step_consumer shape st f).state.deeds
      go None = record { deeds = []; is = refl }
      go (Some f) = record { deeds = _; is = refl }

  to_end_grows : (n : ℕ) (a : Actor) (st : PlayState) (r : Option Answer) → IsCoherent shape st → IsActor st.config a → Grows st.deeds (on_to_end shape n a st r).state.deeds
  to_end_grows n a st r ok there =
      to_end_keeps shape (λ (x : PlayState). Grows st.deeds x.deeds) a (λ x now lt g. grows_twice _ _ _ g (step_grows a x)) n st r ok there record { deeds = []; is = refl }

-- between two whole calls: no call is in flight, and what was decided alone is released
pub record IsResting (shape : ℕ → Option Shape) (st : PlayState) : Type 0 where
  pub coherent : IsCoherent shape st
  pub idle : (c : ℕ) → c < st.config.cpus → (progress_of st.progresses c).flight ≡ None
  pub side : st.side.flight ≡ None
  pub alone : (id : Speculation) → solo id st.deeds ≢ None → IsReleased id st.deeds

-- what was decided alone is released, or is by the next step of the CPU's call
abbrev pub Releases : ℕ → PlayState → Type 0
Releases c st = (id : Speculation) → solo id st.deeds ≢ None → IsReleased id st.deeds ⊎ ((f : DecideFate) × ((progress_of st.progresses c).flight ≡ Some (cpu.CommitRelease id f)))

released_now : (id : Speculation) (h now : List Deed) → id.issue ≡ issue id.slot h → now ≡ Release id.slot ∷ h → IsReleased id now
released_now id h now is e = subst (IsReleased id) (sym e) (rw (number_is_itself id.slot) (omega arith))

none_or : (x : Option ℕ) → (x ≡ None) ⊎ (x ≢ None)
none_or None = inl refl
none_or (Some a) = inr (λ e. cc)

module _ (shape : ℕ → Option Shape) where
  step_releases : (c : ℕ) (st : PlayState) → IsCoherent shape st → c < st.config.cpus → Releases c st → Releases c (step shape (actor.Cpu c) st).state
  step_releases c st ok lt all id now = ⊎_elim
      (λ (none : solo id st.deeds ≡ None). ⊎_elim
      (λ (r : (n : ℕ) × ((step shape (actor.Cpu c) st).state.deeds ≡ Release id.slot ∷ Discard c id (decided.Thrown n) ∷ st.deeds) × IsLast c (answer_of (decided.Thrown n))
      (step shape (actor.Cpu c) st)).
      let sound : IsSound st.config (Release id.slot ∷ Discard c id (decided.Thrown r.0) ∷ st.deeds) =
      subst (IsSound st.config) r.1 (subst (λ k. IsSound k (step shape (actor.Cpu c) st).state.deeds) (step_config shape (actor.Cpu c) st) (step_coherent shape (actor.Cpu c) st ok lt).legal.0) in
      let was_open = discard_open st.config c id (decided.Thrown r.0) st.deeds sound.0 refl in
      inl (released_now id (Discard c id (decided.Thrown r.0) ∷ st.deeds) _ (sym (open_is_now st.config st.deeds id ok.legal.0 was_open)) r.1))
      (λ (r : (f : DecideFate) × ((step shape (actor.Cpu c) st).state.deeds ≡ Commit c id f ∷ st.deeds) × ReleasesThen c id f (step shape (actor.Cpu c) st)). inr (r.0, r.2.next))
      (decided_alone shape st ok c lt id none now))
      (λ (some : solo id st.deeds ≢ None). ⊎_elim
      (λ (r : IsReleased id st.deeds). inl (released_stays id st.deeds _ (step_grows shape (actor.Cpu c) st) r))
      (λ (r : (f : DecideFate) × ((progress_of st.progresses c).flight ≡ Some (cpu.CommitRelease id f))).
      let stands = subst (StandsProgress st.config c st.deeds (progress_of st.progresses c)) r.1 (ok.stands c lt).flight in
      inl (released_now id st.deeds _ stands.5 (released_next shape st ok c lt id r.0 r.1).deeds))
      (all id some))
      (none_or (solo id st.deeds))

module _ (shape : ℕ → Option Shape) (st : PlayState) (rest : IsResting shape st) where
  -- no call is in flight where one CPU's side is replaced by an idle one
  set_idle : (c : ℕ) (x : CpuProgress) → x.flight ≡ None → (d : ℕ) → d < st.config.cpus → (progress_of (slice_set st.progresses c x) d).flight ≡ None
  set_idle c x none = put st.config.cpus (λ b (y : CpuProgress). y.flight ≡ None) st.progresses c x rest.coherent.count (λ b less other. rest.idle b less) (λ less. none)

  -- after a whole call of a CPU
  cpu_rests : (c : ℕ) (o : CpuOp) → c < st.config.cpus → IsResting shape (after_cpu c (cpu_call shape c o st) st) × Grows st.deeds (cpu_call shape c o st).list
  cpu_rests c o lt =
      let ok = rest.coherent in
      let bound : op_bound st.config o ≤ op_bound st.config o = omega arith in
      let count = ok.count in
      let there : c < length st.progresses = omega arith in
      let begun : IsCoherent shape (begin_cpu c o st) = begin_cpu_coherent shape st c o ok lt (rest.idle c lt) in
      let is = ap (λ (x : Stepped). x.state) (cpu_whole shape st ok c o (op_bound st.config o) lt (rest.idle c lt) bound) in
      let ends = cpu_ends_as shape (op_bound st.config o) c o [] st (bare st) record { state = refl; told = refl } ok lt (rest.idle c lt) bound in
      let own : (progress_of (after_cpu c (cpu_call shape c o st) st).progresses c).flight ≡ None =
      is_nothing (progress_of (after_cpu c (cpu_call shape c o st) st).progresses c).flight (subst (λ (x : PlayState). is_idle (actor.Cpu c) x ≡ true) (sym ends.at.state ∙ is) ends.idle) in
      let left : (cpu_call shape c o st).progress.flight
      ≡ None = ap (λ (x : CpuProgress). x.flight) (sym (get_or-set_same st.progresses c (cpu_call shape c o st).progress idle_progress there)) ∙ own in
      let releases : Releases c (after_cpu c (cpu_call shape c o st) st) =
      subst (Releases c) is (to_end_keeps shape (Releases c) (actor.Cpu c) (step_releases shape c) (op_bound st.config o) (begin_cpu c o st) None begun lt (λ id some. inl (rest.alone id some))) in (
        record {
          coherent = subst (IsCoherent shape) is (on_to_end_coherent shape (op_bound st.config o) (actor.Cpu c) (begin_cpu c o st) None begun lt);
          idle = set_idle c (cpu_call shape c o st).progress left;
          side = rest.side;
          alone = λ id some. ⊎_elim (λ (r : IsReleased id (cpu_call shape c o st).list). r)
              (λ (r : (f : DecideFate) × ((progress_of (after_cpu c (cpu_call shape c o st) st).progresses c).flight ≡ Some (cpu.CommitRelease id f))). absurd (some_not (sym own ∙ r.1)))
              (releases id some);
        },
        subst (λ (x : PlayState). Grows st.deeds x.deeds) is (to_end_grows shape (op_bound st.config o) (actor.Cpu c) (begin_cpu c o st) None begun lt),
      )
    where
      some_not : {f : CallPlace} → ◌≡◌ {A = Option CallPlace} None (Some f) → ⊥
      some_not e = cc (e)

  progresses_if : (P : List CpuProgress → Type 0) (b : Bool) (u v : WholeConsumer) → P u.progresses → P v.progresses → P (if b then u else v).progresses
  progresses_if P true u v x y = x
  progresses_if P false u v x y = y

  -- no call of the consumer puts a CPU's call in flight
  consumer_idle : (o : ConsumerOp) → IsCall st.config (of_consumer o) → (d : ℕ) → d < st.config.cpus → (progress_of (consumer_call shape o st).progresses d).flight ≡ None
  consumer_idle (consumer_op.Ask c) there d below = set_idle c _ (rest.idle c there) d below
  consumer_idle (consumer_op.Take c) there d below =
      progresses_if (λ all. (progress_of all d).flight ≡ None) (nat_lt (progress_of st.progresses c).takes (seals c st.deeds)) _ _ (set_idle c _ (rest.idle c there) d below) (rest.idle d below)
  consumer_idle (consumer_op.GiveBack c) there d below =
      progresses_if (λ all. (progress_of all d).flight ≡ None) (is_out (progress_of st.progresses c).spare) _ _ (set_idle c _ (rest.idle c there) d below) (rest.idle d below)
  consumer_idle o there d below = rest.idle d below

  pub apart : (o : ConsumerOp) → IsCall st.config (of_consumer o) → IsApart o st
  apart (consumer_op.Take c) there = (there, rest.idle c there)
  apart o there = tt

  -- after a whole call of the consumer
  consumer_rests : (o : ConsumerOp) → IsCall st.config (of_consumer o) → IsResting shape (after_consumer (consumer_call shape o st) st) × Grows st.deeds (consumer_call shape o st).list
  consumer_rests o there =
      let ok = rest.coherent in
      let bound : consumer_bound st.config o ≤ consumer_bound st.config o = omega arith in
      let begun : IsCoherent shape (begin_consumer o st) = begin_consumer_coherent shape st o ok in
      let is = ap (λ (x : Stepped). x.state) (consumer_whole shape st ok o (consumer_bound st.config o) (apart o there) bound) in
      let grows : Grows st.deeds (consumer_call shape o st).list =
      subst (λ (x : PlayState). Grows st.deeds x.deeds) is (to_end_grows shape (consumer_bound st.config o) actor.Consumer (begin_consumer o st) None begun tt) in (
        record {
          coherent = subst (IsCoherent shape) is (on_to_end_coherent shape (consumer_bound st.config o) actor.Consumer (begin_consumer o st) None begun tt);
          idle = consumer_idle o there;
          side = refl;
          alone = λ id some. released_stays id st.deeds _ grows
              (rest.alone id (λ none. some (subst (λ (x : PlayState). solo id x.deeds ≡ None) is
              (to_end_keeps shape (λ (x : PlayState). solo id x.deeds ≡ None) actor.Consumer (λ x now lt e. (consumer_decides_none shape x now).solos id ∙ e) _ _ None begun tt none))));
        },
        grows,
      )

  -- whole calls go from rest to rest, and the list goes on
  pub after_rests : (x : Call) → IsCall st.config x → IsResting shape (once_called shape x st)
  after_rests (of_cpu c o) there = (cpu_rests c o there).0
  after_rests (of_consumer o) there = (consumer_rests o there).0

  pub after_grows : (x : Call) → IsCall st.config x → Grows st.deeds (once_called shape x st).deeds
  after_grows (of_cpu c o) there = (cpu_rests c o there).1
  after_grows (of_consumer o) there = (consumer_rests o there).1

-- before the first turn
pub start_rests : (shape : ℕ → Option Shape) (k : Config) → start_fault k ≡ None → IsResting shape (at_start k)
start_rests shape k fine = record { coherent = start_coherent shape k fine; idle = λ c lt. ap (λ (x : CpuProgress). x.flight) (idle_at k.cpus c); side = refl; alone = λ id some. absurd (some refl) }

pub after_config : (shape : ℕ → Option Shape) (x : Call) (st : PlayState) → (once_called shape x st).config ≡ st.config
after_config shape (of_cpu c o) st = refl
after_config shape (of_consumer o) st = refl

pub still_calls : (shape : ℕ → Option Shape) (x : Call) (xs : List Call) (st : PlayState) → AreCalls st.config xs → AreCalls (once_called shape x st).config xs
still_calls shape x xs st all = subst (λ k. AreCalls k xs) (sym (after_config shape x st)) all

-- after a list of whole calls
pub rest_all : (shape : ℕ → Option Shape) (xs : List Call) (st : PlayState) → AreCalls st.config xs → IsResting shape st → IsResting shape (after_all shape xs st)
rest_all shape [] st all r = r
rest_all shape (x ∷ xs) st all r = rest_all shape xs (once_called shape x st) (still_calls shape x xs st all.1) (after_rests shape st r x all.0)

pub config_all : (shape : ℕ → Option Shape) (xs : List Call) (st : PlayState) → (after_all shape xs st).config ≡ st.config
config_all shape [] st = refl
config_all shape (x ∷ xs) st = config_all shape xs (once_called shape x st) ∙ after_config shape x st

-- the list after whole calls is legal
pub whole_legal : (shape : ℕ → Option Shape) (k : Config) → start_fault k ≡ None → (xs : List Call) → AreCalls k xs → IsLegal shape k (after_all shape xs (at_start k)).deeds
whole_legal shape k fine xs all =
    let ok = (rest_all shape xs (at_start k) all (start_rests shape k fine)).coherent in
    subst (λ m. IsLegal shape m (after_all shape xs (at_start k)).deeds) (config_all shape xs (at_start k)) (ok.legal, ok.authors)
