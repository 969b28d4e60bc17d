-- A step leaves each CPU within the most calls that it may make.
use Rattle.std.proofs.Common.{◌≡◌, ℕ, ◌+◌, ◌<◌, ◌≤◌, true, false, ◌&&◌, List, [], ◌∷◌, ◌++◌, set, if◌then◌else◌, Option, Some, None, refl, sym, ap, ◌∙◌, subst, ⊎_elim, arith}
use Rattle.std.proofs.lemmas.Bool.Decides.{nat_tests}
use Rattle.std.specs.Prelude.{nat_le}
use Rattle.dspec_core.specs.Words.{Shape, Actor, Answer, CpuOp, Config, Deed, author, same_actor, calls, op_of, IsCoherent, PlayState, StandsState, progress_of, CpuStep, ConsumerStep, cpu_step}
use Rattle.dspec_core.specs.Words.{consumer_step, is_counted, is_first, is_told_worn, is_due, IsWithin, CpuProgress, CallPlace, ConsumerFlight}
use Rattle.dspec_deeds.specs.declared.calls.Actor.TheVariants as actor
use Rattle.dspec_deeds.specs.declared.calls.Op.TheVariants as op
use Rattle.dspec_deeds.proofs.{Going.AllBy, StayingOwn.calls_other, TestLemmas.same_actor_tells}
use Rattle.dspec_interleaving.proofs.{ConsumerSteps.consumer_keeps, CpuSteps.cpu_step_stands, FlightsStay.flights_stay, KeptCalls.step_passes, OwnAnswersPlay.put, StepEnds.HasEnded}
use Rattle.dspec_interleaving.proofs.{StepEnds.HasGoneOn, WornCpuSteps.ahead, WornCpuSteps.enters, WornCpuSteps.cpu_step_wears, WornCpuSteps.cpu_advances}

-- a deed that counts was entered by the call in flight, or is to come, or neither
abbrev spent : Option CallPlace → ℕ
spent x = ahead x + (if is_due x then 1 else 0)

spent_once : (x : CallPlace) → spent (Some x) ≤ 1
spent_once x = grind (arith, nat_tests)

-- a call that doesn't count has none
spent_never : (x : CallPlace) → is_counted (op.Cpu (op_of x)) ≡ false → spent (Some x) ≡ 0
spent_never x h1 = grind (arith, nat_tests)

-- one at the most, and none of a call that doesn't count, or was worn
enters_one : (o : CpuOp) (a : Option Answer) → enters (op.Cpu o) a ≤ 1
enters_one o None = omega arith
enters_one o (Some a) = grind (arith, nat_tests)

enters_never : (o : CpuOp) (a : Option Answer) → is_counted (op.Cpu o) ≡ false → enters (op.Cpu o) a ≡ 0
enters_never o None e = refl
enters_never o (Some a) e = rw e refl

enters_unworn : (o : CpuOp) (a : Option Answer) → is_told_worn a ≡ true → enters (op.Cpu o) a ≡ 0
enters_unworn o None e = refl
enters_unworn o (Some a) e = grind (arith, nat_tests)

-- a call that counts and isn't worn at its first step leaves room for one deed that counts, which it enters once
room : (k : Config) (c : ℕ) (h : List Deed) (f : CallPlace) (a : Option Answer) (e : ℕ) → IsWithin k c h (Some f) → is_told_worn a ≡ (is_first (Some f) && nat_le k.max_calls (calls c h))
    → e ≤ 1 → (is_counted (op.Cpu (op_of f)) ≡ false → e ≡ 0) → (is_told_worn a ≡ true → e ≡ 0) → calls c h + e ≤ k.max_calls + ahead (Some f)
room k c h f a e h1 h2 h3 h4 h5 = grind (arith, nat_tests)

-- the CPU whose step it is
step_within : (shape : ℕ → Option Shape) (k : Config) (c : ℕ) (h : List Deed) (me : CpuProgress) (f : CallPlace) → IsWithin k c h (Some f)
    → IsWithin k c ((cpu_step shape k c h me f).deeds ++ h) (cpu_step shape k c h me f).progress.flight
step_within shape k c h me f was =
    let m : CpuStep = cpu_step shape k c h me f in
    let wears = cpu_step_wears shape k c h me f in
    let more = wears.counts in
    ⊎_elim
    (λ (e : HasEnded m).
    let entered = room k c h f m.answer (enters (op.Cpu (op_of f)) m.answer) was wears.told (enters_one (op_of f) m.answer) (enters_never (op_of f) m.answer) (enters_unworn (op_of f) m.answer) in
    let none : ahead m.progress.flight ≡ 0 = ap ahead e.idle in
    let left : calls c (m.deeds ++ h) + 0 ≤ k.max_calls = omega arith in
    subst (λ x. IsWithin k c (m.deeds ++ h) x) (sym e.idle) left)
    (λ (g : HasGoneOn k me _ _ m).
    let same : op_of g.next ≡ op_of f = step_passes (λ o. o ≡ op_of f) shape k c h me f refl g.next g.flight in
    let spends = room k c h f m.answer (spent (Some g.next)) was wears.told (spent_once g.next)
    (λ e. spent_never g.next (ap (λ o. is_counted (op.Cpu o)) same ∙ e)) (λ e. absurd (cc (ap is_told_worn g.answers, e))) in
    let none : enters (op.Cpu (op_of f)) m.answer ≡ 0 = ap (enters (op.Cpu (op_of f))) g.answers in
    let on : ahead m.progress.flight ≡ ahead (Some g.next) = ap ahead g.flight in
    let left : calls c (m.deeds ++ h) + (if is_due (Some g.next) then 1 else 0) ≤ k.max_calls = omega arith in
    subst (λ x. IsWithin k c (m.deeds ++ h) x) (sym g.flight) left)
    (cpu_advances shape k c h me f)

-- another's deeds are no calls of the CPU
calls_stay : (c : ℕ) (w : Actor) → same_actor (actor.Cpu c) w ≡ false → (ds h : List Deed) → AllBy w ds h → calls c (ds ++ h) ≡ calls c h
calls_stay c w other [] h by = refl
calls_stay c w other (d ∷ ds) h by =
    calls_other c d (ds ++ h) (subst (λ (x : Actor). same_actor (actor.Cpu c) x ≡ false) (same_actor_tells w (author d (ds ++ h)) by.1) other) ∙ calls_stay c w other ds h by.0

-- every CPU is within the most calls that it may make
abbrev pub AllWithin : PlayState → Type 0
AllWithin st = (c : ℕ) → c < st.config.cpus → IsWithin st.config c st.deeds (progress_of st.progresses c).flight

module _ (shape : ℕ → Option Shape) (st : PlayState) (ok : IsCoherent shape st) (was : AllWithin st) where
  -- a step of a CPU
  pub cpu_within : (c : ℕ) (f : CallPlace) → c < st.config.cpus → (progress_of st.progresses c).flight ≡ Some f
      → AllWithin (record st {
        deeds = (cpu_step shape st.config c st.deeds (progress_of st.progresses c) f).deeds ++ st.deeds;
        progresses = set st.progresses c (cpu_step shape st.config c st.deeds (progress_of st.progresses c) f).progress;
      })
  cpu_within c f lt is =
      let me : CpuProgress = progress_of st.progresses c in
      let m : CpuStep = cpu_step shape st.config c st.deeds me f in
      let did = cpu_step_stands shape st.config c st.deeds me ok.ranges ok.legal ok.rests (ok.stands c lt) f is in
      put st.config.cpus (λ b (x : CpuProgress). IsWithin st.config b (m.deeds ++ st.deeds) x.flight) st.progresses c m.progress ok.count
      (λ b less other. subst (λ n. n + (if is_due (progress_of st.progresses b).flight then 1 else 0) ≤ st.config.max_calls)
      (sym (calls_stay b (actor.Cpu c) other m.deeds st.deeds did.goes.by)) (was b less))
      (λ less. step_within shape st.config c st.deeds me f (subst (λ x. IsWithin st.config c st.deeds x) is (was c less)))

  -- a step of the consumer
  pub consumer_within : (f : ConsumerFlight) → st.side.flight ≡ Some f
      → AllWithin (record st {
        deeds = (consumer_step st.config st.deeds st.side st.progresses f).deeds ++ st.deeds;
        progresses = (consumer_step st.config st.deeds st.side st.progresses f).progresses;
        side = (consumer_step st.config st.deeds st.side st.progresses f).side;
      })
  consumer_within f is =
      let m : ConsumerStep = consumer_step st.config st.deeds st.side st.progresses f in
      let did = consumer_keeps shape st.config st.deeds st.side st.progresses ok.ranges ok.legal ok.rests ok.count ok.stands f (subst (StandsState st.config st.deeds st.side) is ok.side) in
      λ b less. subst (λ (x : ℕ × Option CallPlace). x.0 + (if is_due x.1 then 1 else 0) ≤ st.config.max_calls)
      (λ i. (sym (calls_stay b actor.Consumer refl m.deeds st.deeds did.goes.by) i, sym (flights_stay st.config st.deeds st.side st.progresses ok.count f b less) i))
      (was b less)
