-- What a clean releases, slot by slot, and when a call of the consumer has ended.
use Prim.Native.Nat.{zero, suc}
use Rattle.std.proofs.Common.{◌≡◌, ◌≤◌, ◌<◌, ◌+◌, inl, inr, ℕ, Bool, true, false, ◌&&◌, ◌==◌, List, ◌∷◌, ◌++◌, Option, Some, None, is_none, if◌then◌else◌, refl, sym, ap, ◌∙◌, subst, ⊎_elim, arith}
use Rattle.std.proofs.lemmas.Bool.Decides.{nat_tests}
use Rattle.dspec_interleaving.specs.Words.{Shape, Speculation, awaits, present, verdict, is_undecided, solo, settled, is_busy, owed, releaser, word_at, IsSound, PlayState, ConsumerStep, Release}
use Rattle.dspec_interleaving.specs.Words.{consumer_step, keeps_on, stops, Stepped, step, on_to_end, WholeConsumer, all_settled, is_reapable, cleaned_at, cleaned_up, Config, Actor, Answer, Deed}
use Rattle.dspec_interleaving.specs.declared.flight.{ConsumerFlight.ConsumerFlight, ConsumerProgress.ConsumerProgress, CpuProgress.CpuProgress}
use Rattle.dspec_deeds.specs.declared.calls.Actor.TheVariants as actor
use Rattle.dspec_deeds.proofs.{Awaiting.awaits_is, TestLemmas.either_way, TestLemmas.and_tells, TestLemmas.and_false, TestLemmas.off}
use Rattle.dspec_interleaving.proofs.Tests.{is_nothing, not_tells}

-- after a step that no other call overlaps, no release is owed
pub record IsQuiet (k : Config) (h : List Deed) : Type 0 where
  pub sound : IsSound k h
  pub rests : owed h ≡ 0

module _ (shape : ℕ → Option Shape) where
  pub answer_stays : (n : ℕ) (a : Actor) (st : PlayState) (r : Answer) → on_to_end shape n a st (Some r) ≡ record { state = st; answer = Some r }
  answer_stays zero a st r = refl
  answer_stays (suc n) a st r = refl

  pub more_steps : (n m : ℕ) (a : Actor) (st : PlayState) (r : Option Answer) (to : PlayState) (x : Answer) → n ≤ m
      → on_to_end shape n a st r ≡ record { state = to; answer = Some x } → on_to_end shape m a st r ≡ record { state = to; answer = Some x }
  more_steps zero m a st r to x le e =
      let at : r ≡ Some x = ap (λ (l : Stepped). l.answer) e in
      ap (on_to_end shape m a st) at ∙ (answer_stays m a st x ∙ (sym (λ i. record { state = st; answer = at i }) ∙ e))
  more_steps (suc n) zero a st r to x le e = absurd (omega arith)
  more_steps (suc n) (suc m) a st (Some r) to x le e = e
  more_steps (suc n) (suc m) a st None to x le e = more_steps n m a (step shape a st).state (step shape a st).answer to x (omega arith) e

-- the consumer's side after a call, and one step later
abbrev pub at_rest : ConsumerProgress
at_rest = record { flight = None; steps = 0 }

abbrev pub later_side : ConsumerProgress → ConsumerFlight → ConsumerProgress
later_side side f = record { flight = Some f; steps = side.steps + 1 }

module _ (shape : ℕ → Option Shape) (st : PlayState) where
  -- the consumer's side, the CPUs' and the list
  abbrev pub stands_at : ConsumerProgress → List CpuProgress → List Deed → PlayState
  stands_at side all h = record { config = st.config; deeds = h; progresses = all; side = side }

  -- what the state becomes after a whole call of the consumer
  abbrev pub left_by : WholeConsumer → Stepped
  left_by w = record { state = stands_at at_rest w.progresses w.list; answer = Some w.answer }

  -- after a step, more steps of the call lead to what the whole call leaves
  pub record Clears (h : List Deed) (m : ConsumerStep) (w : WholeConsumer) : Type 0 where
    pub steps : ℕ
    pub is : on_to_end shape steps actor.Consumer (stands_at m.side m.progresses (m.deeds ++ h)) m.answer ≡ left_by w

module _ {shape : ℕ → Option Shape} {st : PlayState} {h : List Deed} {all : List CpuProgress} where
  pub clear_ended : {ds : List Deed} {a : Answer} (side : ConsumerProgress) → Clears shape st h (stops st.config h side all ds a) record { list = ds ++ h; progresses = all; answer = a }
  clear_ended side = record { steps = 0; is = refl }

  pub clear_goes : {ds : List Deed} {f : ConsumerFlight} {w : WholeConsumer} (side : ConsumerProgress)
      → Clears shape st (ds ++ h) (consumer_step st.config (ds ++ h) (later_side side f) all f) w → Clears shape st h (keeps_on st.config h side all ds f) w
  clear_goes side l = record { steps = suc l.steps; is = l.is }

module _ {shape : ℕ → Option Shape} {st : PlayState} {h : List Deed} where
  pub clear_test : (b : Bool) {x y : ConsumerStep} {w : WholeConsumer} → (b ≡ true → Clears shape st h x w) → (b ≡ false → Clears shape st h y w) → Clears shape st h (if b then x else y) w
  clear_test true t f = t refl
  clear_test false t f = f refl

  pub clear_true : (b : Bool) {x : ConsumerStep} (y : ConsumerStep) {w : WholeConsumer} → b ≡ true → Clears shape st h x w → Clears shape st h (if b then x else y) w
  clear_true b y e l = clear_test b (λ t. l) (λ f. off b e f)

  pub clear_false : (b : Bool) (x : ConsumerStep) {y : ConsumerStep} {w : WholeConsumer} → b ≡ false → Clears shape st h y w → Clears shape st h (if b then x else y) w
  clear_false b x e l = clear_test b (λ t. off b t e) (λ f. l)

assoc : (x y z : Bool) → ((x && y) && z) ≡ (x && (y && z))
assoc true y z = refl
assoc false y z = refl

module _ (k : Config) where
  -- where a word waits, its slot can be released exactly once every CPU has settled
  pub reapable_is : (s : ℕ) (h : List Deed) → IsQuiet k h → is_reapable k s h ≡ (awaits (word_at s h).code && all_settled k k.cpus (present s h) h)
  reapable_is s h q = sym (assoc (is_busy s h) (is_none (solo (present s h) h)) (all_settled k k.cpus (present s h) h)) ∙ ap (λ b. b && all_settled k k.cpus (present s h) h)
      (sym (awaits_is k s h q.sound q.rests))

  pub each_settled : (n : ℕ) (id : Speculation) (h : List Deed) → all_settled k n id h ≡ true → (c : ℕ) → c < n → settled c id h ≡ true
  each_settled zero id h e c lt = absurd (omega arith)
  each_settled (suc n) id h e c lt =
      let both = and_tells (all_settled k n id h) (settled n id h) e in
      ⊎_elim
      (λ (t : (c == n) ≡ true). let same : c ≡ n = grind (arith, nat_tests) in subst (λ x. settled x id h ≡ true) (sym same) both.1)
      (λ (f : (c == n) ≡ false). let below : c < n = grind (arith, nat_tests) in each_settled n id h both.0 c below)
      (either_way (c == n))

  -- one CPU's settlement that is missing
  pub one_missing : (n j : ℕ) (id : Speculation) (h : List Deed) → settled n id h ≡ false → all_settled k (suc n + j) id h ≡ false
  one_missing n zero id h e = let same : suc n + 0 ≡ suc n =
      omega arith in ap (λ m. all_settled k m id h) same ∙ (ap (λ b. all_settled k n id h && b) e ∙ and_false (all_settled k n id h))
  one_missing n (suc j) id h e = let up : suc n + suc j ≡ suc (suc n + j) = omega arith in ap (λ m. all_settled k m id h) up ∙ ap (λ b. b && settled (suc n + j) id h) (one_missing n j id h e)

  -- a slot that can be released may be, by the consumer
  release_rests : (s : ℕ) (h : List Deed) → IsQuiet k h → is_reapable k s h ≡ true → IsQuiet k (Release s ∷ h)
  release_rests s h q e =
      let a = and_tells (is_busy s h) _ e in
      let b = and_tells (is_none (solo (present s h) h)) _ a.1 in
      let alone = is_nothing (solo (present s h) h) b.0 in
      record {
        sound = (
          q.sound,
          (
            inl q.rests,
            ((not_tells (is_undecided (verdict (present s h) h)) a.0, inr (each_settled k.cpus (present s h) h b.1)), λ c by. absurd (consumer_no c (ap releaser (sym alone) ∙ by))),
          ),
        );
        rests = refl;
      }
    where
      consumer_no : (c : ℕ) → ◌≡◌ {A = Actor} actor.Consumer (actor.Cpu c) → ⊥
      consumer_no c e = cc (e)

  pub cleaned_at_rests : (s : ℕ) (h : List Deed) → IsQuiet k h → IsQuiet k (cleaned_at k s h)
  cleaned_at_rests s h q = go (is_reapable k s h) refl
    where
      go : (b : Bool) → is_reapable k s h ≡ b → IsQuiet k (if b then Release s ∷ h else h)
      go true e = release_rests s h q e
      go false e = q

  pub cleaned_up_rests : (n : ℕ) (h : List Deed) → IsQuiet k h → IsQuiet k (cleaned_up k n h)
  cleaned_up_rests zero h q = q
  cleaned_up_rests (suc n) h q = cleaned_at_rests (suc n) (cleaned_up k n h) (cleaned_up_rests n h q)
