-- A call that a play runs to its end is put down once, with the answer and the state that its steps one by one leave.
use Rattle.std.proofs.Common.{◌≡◌, ℕ, zero, suc, ◌+◌, ◌<◌, ◌≤◌, Bool, true, false, List, [], ◌∷◌, ◌++◌, Option, Some, None, if◌then◌else◌, refl, sym, ap, subst, ⊎_elim, arith, ◌∙◌}
use Rattle.std.proofs.lemmas.{Bool.Decides.nat_tests, List.get_or-set_same}
use Rattle.std.specs.Prelude.{is_none}
use Rattle.dspec_interleaving.specs.Words.{Shape, Actor, Answer, CpuOp, Op, op_bound, steps_limit, steps_of, cpu_limit, cpu_call_of, call_of, is_actor, is_idle, IsCoherent, PlayState, progress_of}
use Rattle.dspec_interleaving.specs.Words.{idle_progress, Stepped, begin_cpu, step, on_to_end, EndedCall, IsPlayingAt, Playing, begun_cpu, stepped, to_end}
use Rattle.dspec_interleaving.specs.declared.flight.{CallPlace.CallPlace, CpuProgress.CpuProgress}
use Rattle.dspec_deeds.specs.declared.calls.Actor.TheVariants as actor
use Rattle.dspec_deeds.specs.declared.calls.Op.TheVariants as op
use Rattle.dspec_interleaving.specs.declared.flight.CallPlace.TheVariants as cpu
use Rattle.dspec_interleaving.proofs.{CleanedParts.answer_stays, CleanedParts.more_steps, Coherence.IsActor, Coherence.begin_cpu_coherent, Coherence.step_config, Coherence.step_coherent}
use Rattle.dspec_interleaving.proofs.{PlayerMoves.with_answer, PlayerMoves.ended_stays, PlayerMoves.step_at, StepCounts.Ends, StepCounts.StaysOn, StepCounts.is_below, StepCounts.steps_below}
use Rattle.dspec_interleaving.proofs.{StepCounts.step_ends}

-- after the run of a call one more is put down, as the steps one by one leave and answer it
pub record EndsAs (a : Actor) (o : Op) (es : List EndedCall) (q : Playing) (s : Stepped) : Type 0 where
  pub told : Answer
  pub answers : s.answer ≡ Some told
  pub idle : is_idle a q.state ≡ true
  pub at : IsPlayingAt s.state (es ++ (a, o, told) ∷ []) q

-- a play in that state, of which nothing was told yet
abbrev pub bare : PlayState → Playing
bare st = record { state = st; entered = λ c. []; cleaned = []; noted = [] }

module _ (shape : ℕ → Option Shape) where
  -- a call that ends within some steps ends so within all in which it ends
  pub same_end : (n m : ℕ) (a : Actor) (st to : PlayState) (x y : Answer) → on_to_end shape n a st None ≡ record { state = to; answer = Some x } → (on_to_end shape m a st None).answer ≡ Some y
      → on_to_end shape m a st None ≡ record { state = to; answer = Some x }
  same_end n m a st to x y one two =
      let new : Stepped = on_to_end shape m a st None in
      let is : new ≡ record { state = new.state; answer = Some y } = λ i. record { state = new.state; answer = two i } in
      is ∙ (sym (more_steps shape m (n + m) a st None new.state y (omega arith) is) ∙ more_steps shape n (n + m) a st None to x (omega arith) one)

  is_there : (st : PlayState) (a : Actor) → is_actor st.config a ≡ true → IsActor st.config a
  is_there st (actor.Cpu c) there = is_below st.config c there
  is_there st actor.Consumer there = tt

  -- a call in flight
  pub ends_as : (n : ℕ) (a : Actor) (es : List EndedCall) (st : PlayState) (p : Playing) → IsPlayingAt st es p → IsCoherent shape st → is_actor st.config a ≡ true → is_idle a st ≡ false
      → steps_limit a st ≤ n + steps_of a st → EndsAs a (call_of a st) es (to_end shape n a p) (on_to_end shape n a st None)
  ends_as zero a es st p at ok there busy most = let low = steps_below shape st a ok there in absurd (omega arith)
  ends_as (suc n) a es st p at ok there busy most =
      let new : Stepped = step shape a st in
      let next : (r : Option Answer) → new.answer ≡ r → IsPlayingAt new.state (with_answer a (call_of a st) r es) (stepped shape a p) =
      λ r is. step_at shape a st new.state es (with_answer a (call_of a st) r es) r busy refl is refl p at in
      subst (λ (b : Bool). EndsAs a (call_of a st) es (if b then p else to_end shape n a (stepped shape a p)) (on_to_end shape n a new.state new.answer))
      (sym (subst (λ s. is_idle a s ≡ false) at.state busy))
      (⊎_elim
      (λ (e : Ends a new).
      let last = next (Some e.told) e.answers in
      let idle : is_idle a (stepped shape a p).state ≡ true = subst (λ s. is_idle a s ≡ true) last.state e.idle in
      subst (λ r. EndsAs a (call_of a st) es (to_end shape n a (stepped shape a p)) (on_to_end shape n a new.state r)) (sym e.answers)
      (subst (λ q. EndsAs a (call_of a st) es q (on_to_end shape n a new.state (Some e.told))) (sym (ended_stays shape n a (stepped shape a p) idle))
      (subst (λ s. EndsAs a (call_of a st) es (stepped shape a p) s) (sym (answer_stays shape n a new.state e.told)) record { told = e.told; answers = refl; idle = idle; at = last })))
      (λ (g : StaysOn a st new).
      let steps = g.counted in
      let limit = g.limit in
      subst (λ r. EndsAs a (call_of a st) es (to_end shape n a (stepped shape a p)) (on_to_end shape n a new.state r)) (sym g.answers)
      (subst (λ o. EndsAs a o es (to_end shape n a (stepped shape a p)) (on_to_end shape n a new.state None)) g.call
      (ends_as n a es new.state (stepped shape a p) (next None g.answers) (step_coherent shape a st ok (is_there st a there))
      (subst (λ k. is_actor k a ≡ true) (sym (step_config shape a st)) there) g.busy (omega arith))))
      (step_ends shape st a ok there busy))

  -- a call of a CPU that begins
  pub cpu_ends_as : (n c : ℕ) (o : CpuOp) (es : List EndedCall) (st : PlayState) (p : Playing) → IsPlayingAt st es p → IsCoherent shape st → c < st.config.cpus
      → (progress_of st.progresses c).flight ≡ None → op_bound st.config o ≤ n
      → EndsAs (actor.Cpu c) (op.Cpu o) es (to_end shape n (actor.Cpu c) (begun_cpu c o p)) (on_to_end shape n (actor.Cpu c) (begin_cpu c o st) None)
  cpu_ends_as n c o es st p at ok lt idle most =
      let first : CpuProgress = record (progress_of st.progresses c) { flight = Some (cpu.Begun o); steps = 0 } in
      let here : progress_of (begin_cpu c o st).progresses c ≡ first = get_or-set_same st.progresses c first idle_progress (let count = ok.count in omega arith) in
      let flight = ap (λ (x : CpuProgress). x.flight) here in
      let limit : steps_limit (actor.Cpu c) (begin_cpu c o st) ≡ op_bound st.config o = ap (cpu_limit st.config) flight in
      subst (λ x. EndsAs (actor.Cpu c) x es (to_end shape n (actor.Cpu c) (begun_cpu c o p)) (on_to_end shape n (actor.Cpu c) (begin_cpu c o st) None)) (ap cpu_call_of flight)
      (ends_as n (actor.Cpu c) es (begin_cpu c o st) (begun_cpu c o p) record { state = ap (begin_cpu c o) at.state; told = at.told } (begin_cpu_coherent shape st c o ok lt idle)
      (grind (arith, nat_tests)) (ap (λ (y : Option CallPlace). is_none y) flight) (omega arith))
