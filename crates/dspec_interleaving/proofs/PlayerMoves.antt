-- What a player's steps make of the play that it follows.
use Rattle.std.proofs.Common.{◌≡◌, ℕ, zero, suc, ◌+◌, ◌-◌, ◌<◌, true, false, List, [], ◌∷◌, ◌++◌, map, reverse, Option, Some, None, is_none, refl, sym, ap, ◌∙◌, subst, arith, true≢false}
use Rattle.std.proofs.lemmas.List.{reverse-append, map-append}
use Rattle.dspec_interleaving.specs.Words.{Shape, Actor, Answer, Op, cpu_call_of, consumer_call_of, call_of, is_idle, PlayState, progress_of, EndedCall, IsPlayingAt, Noted, Playing, cpu_stepped}
use Rattle.dspec_interleaving.specs.Words.{consumer_stepped, ended, with_note, stepped, to_end, step}
use Rattle.dspec_interleaving.specs.declared.flight.{CallPlace.CallPlace, ConsumerFlight.ConsumerFlight}
use Rattle.dspec_deeds.specs.declared.calls.Actor.TheVariants as actor

-- the latest call to end is put down last
put_last : (n : Noted) (ns : List Noted) → map ended (reverse (n ∷ ns)) ≡ map ended (reverse ns) ++ ended n ∷ []
put_last n ns = ap (λ (l : List Noted). map ended l) (reverse-append (n ∷ []) ns) ∙ map-append ended (reverse ns) (n ∷ [])

-- the answers once a call has ended
abbrev pub with_answer : Actor → Op → Option Answer → List EndedCall → List EndedCall
with_answer a o None answers = answers
with_answer a o (Some r) answers = answers ++ (a, o, r) ∷ []

module _ (shape : ℕ → Option Shape) where
  -- where no call of the actor is in flight, there is nothing to run
  pub ended_stays : (n : ℕ) (a : Actor) (p : Playing) → is_idle a p.state ≡ true → to_end shape n a p ≡ p
  ended_stays zero a p idle = refl
  ended_stays (suc n) a p idle = rw idle refl

  noted_last : (a : Actor) (o : Op) (ds : List _) (st : PlayState) (r : Option Answer) (ns : List Noted) → with_answer a o r (map ended (reverse ns)) ≡ map ended (reverse (with_note a o ds st r ns))
  noted_last a o ds st None ns = refl
  noted_last a o ds st (Some r) ns = sym (put_last record { by = a; call = o; answer = r; deeds = ds; found = st } ns)

  cpu_goes : (c : ℕ) (p : Playing) (f : Option CallPlace) → (progress_of p.state.progresses c).flight ≡ f → is_none f ≡ false
      → IsPlayingAt (step shape (actor.Cpu c) p.state).state
      (with_answer (actor.Cpu c) (cpu_call_of f) (step shape (actor.Cpu c) p.state).answer (map ended (reverse p.noted))) (cpu_stepped shape c p f)
  cpu_goes c p None is busy = absurd (true≢false busy)
  cpu_goes c p (Some f) is busy = record { state = refl; told = noted_last (actor.Cpu c) (cpu_call_of (Some f)) _ p.state (step shape (actor.Cpu c) p.state).answer p.noted }

  consumer_goes : (p : Playing) (f : Option ConsumerFlight) → p.state.side.flight ≡ f → is_none f ≡ false
      → IsPlayingAt (step shape actor.Consumer p.state).state
      (with_answer actor.Consumer (consumer_call_of f) (step shape actor.Consumer p.state).answer (map ended (reverse p.noted))) (consumer_stepped shape p f)
  consumer_goes p None is busy = absurd (true≢false busy)
  consumer_goes p (Some f) is busy = record { state = refl; told = noted_last actor.Consumer (consumer_call_of (Some f)) _ p.state (step shape actor.Consumer p.state).answer p.noted }

  goes : (a : Actor) (p : Playing) → is_idle a p.state ≡ false
      → IsPlayingAt (step shape a p.state).state (with_answer a (call_of a p.state) (step shape a p.state).answer (map ended (reverse p.noted))) (stepped shape a p)
  goes (actor.Cpu c) p busy = cpu_goes c p (progress_of p.state.progresses c).flight refl busy
  goes actor.Consumer p busy = consumer_goes p p.state.side.flight refl busy

  -- a step of an actor that is busy, whose call goes on or has its answer put down
  pub step_at : (a : Actor) (st now : PlayState) (answers after : List EndedCall) (r : Option Answer) → is_idle a st ≡ false
      → now ≡ (step shape a st).state → (step shape a st).answer ≡ r → after ≡ with_answer a (call_of a st) r answers
      → (p : Playing) → IsPlayingAt st answers p → IsPlayingAt now after (stepped shape a p)
  step_at a st now answers after r busy is told put p at =
      let there = goes a p (subst (λ s. is_idle a s ≡ false) at.state busy) in
      record {
        state = is ∙ (ap (λ s. (step shape a s).state) at.state ∙ there.state);
        told = put
            ∙ (ap (λ (s : PlayState). with_answer a (call_of a s) r answers) at.state
            ∙ (ap (λ (x : Option Answer). with_answer a (call_of a p.state) x answers) (sym told ∙ ap (λ s. (step shape a s).answer) at.state)
            ∙ (ap (λ (l : List EndedCall). with_answer a (call_of a p.state) (step shape a p.state).answer l) at.told ∙ there.told)));
      }

-- after so many steps of an actor, a play goes on to the same end
abbrev pub RunsOn : (ℕ → Option Shape) → Actor → ℕ → ℕ → PlayState → List EndedCall → PlayState → List EndedCall → Type 0
RunsOn shape a total done st before now answers =
    (p : Playing) → IsPlayingAt st before p → (q : Playing) × (IsPlayingAt now answers q × (to_end shape (total - done) a q ≡ to_end shape total a p))

module _ (shape : ℕ → Option Shape) (a : Actor) (total : ℕ) where
  -- one more step
  pub runs_on : (done : ℕ) (st : PlayState) (before : List EndedCall) (now new : PlayState) (answers after : List EndedCall) → done < total → is_idle a now ≡ false
      → ((p : Playing) → IsPlayingAt now answers p → IsPlayingAt new after (stepped shape a p))
      → RunsOn shape a total done st before now answers → RunsOn shape a total (done + 1) st before new after
  runs_on done st before now new answers after lt busy next runs p at =
      let q = runs p at in
      let more : total - done ≡ suc (total - (done + 1)) = omega arith in
      let busy_there : is_idle a q.0.state ≡ false = subst (λ s. is_idle a s ≡ false) q.1.0.state busy in
      let one : to_end shape (suc (total - (done + 1))) a q.0 ≡ to_end shape (total - (done + 1)) a (stepped shape a q.0) = rw busy_there refl in
      (stepped shape a q.0, (next q.0 q.1.0, sym one ∙ (ap (λ n. to_end shape n a q.0) (sym more) ∙ q.1.1)))

  -- where no call of the actor is in flight, its run has come to its end
  pub runs_idle : (done : ℕ) (st : PlayState) (before : List EndedCall) (now : PlayState) (answers : List EndedCall) → is_idle a now ≡ true
      → RunsOn shape a total done st before now answers → (p : Playing) → IsPlayingAt st before p → IsPlayingAt now answers (to_end shape total a p)
  runs_idle done st before now answers idle runs p at =
      let q = runs p at in
      subst (λ x. IsPlayingAt now answers x) (sym (ended_stays shape (total - done) a q.0 (subst (λ s. is_idle a s ≡ true) q.1.0.state idle)) ∙ q.1.1) q.1.0
