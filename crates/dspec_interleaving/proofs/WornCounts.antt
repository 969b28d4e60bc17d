-- How many calls of a CPU were entered, and how many told Worn, by what was noted.
use Rattle.std.proofs.Common.{◌≡◌, ℕ, ◌+◌, Bool, true, false, ◌&&◌, List, [], ◌∷◌, ◌++◌, Option, Some, None, refl, sym, ap, ◌∙◌, subst, ⊎_elim, arith}
use Rattle.std.specs.Prelude.{map, nat_le}
use Rattle.dspec_interleaving.specs.Words.{Shape, Config, Actor, Answer, CpuOp, Op, Deed, author, same_actor, calls, op_of, PlayState, progress_of, cpu_step, EndedCall, Noted, ended, with_note}
use Rattle.dspec_interleaving.specs.Words.{is_by, is_worn_answer, step_cpu, step_consumer, step, is_counted, is_first, is_told_worn, entered_calls, is_worn_after, AreWornRightly}
use Rattle.dspec_interleaving.specs.declared.flight.{CallPlace.CallPlace, ConsumerFlight.ConsumerFlight, CpuProgress.CpuProgress}
use Rattle.dspec_deeds.specs.declared.calls.Actor.TheVariants as actor
use Rattle.dspec_deeds.specs.declared.calls.Op.TheVariants as op
use Rattle.dspec_interleaving.specs.declared.flight.CallPlace.TheVariants as cpu
use Rattle.dspec_deeds.proofs.{Going.AllBy, StayingOwn.calls_other, TestLemmas.number_is_itself, TestLemmas.same_actor_tells}
use Rattle.dspec_interleaving.proofs.{FlightsStay.consumer_unworn, KeptCalls.step_passes, StepEnds.HasEnded, StepEnds.HasGoneOn, WornCpuSteps.ahead, WornCpuSteps.enters, WornCpuSteps.cpu_step_wears}
use Rattle.dspec_interleaving.proofs.{WornCpuSteps.cpu_advances}

-- a step of a CPU answers Worn exactly where it is the first of a call that counts, and the CPU has entered as many as it may
pub step_wears : (shape : ℕ → Option Shape) (st : PlayState) (c : ℕ)
    → is_told_worn (step shape (actor.Cpu c) st).answer ≡ (is_first (progress_of st.progresses c).flight && nat_le st.config.max_calls (calls c st.deeds))
step_wears shape st c = go (progress_of st.progresses c).flight
  where
    go : (x : Option CallPlace) → is_told_worn (step_cpu shape c st x).answer ≡ (is_first x && nat_le st.config.max_calls (calls c st.deeds))
    go None = refl
    go (Some f) = (cpu_step_wears shape st.config c st.deeds (progress_of st.progresses c) f).told

pub clean_wears : (shape : ℕ → Option Shape) (st : PlayState) → is_told_worn (step shape actor.Consumer st).answer ≡ false
clean_wears shape st = go st.side.flight
  where
    go : (x : Option ConsumerFlight) → is_told_worn (step_consumer shape st x).answer ≡ false
    go None = refl
    go (Some f) = consumer_unworn st.config st.deeds st.side st.progresses f

-- a call that counts is past its first step
abbrev pub is_on : Option CallPlace → Bool
is_on None = false
is_on (Some (cpu.Begun o)) = false
is_on (Some f) = is_counted (op.Cpu (op_of f))

-- what a CPU has entered, by its ended calls and the one in flight, which was unworn at its first step
pub record HasEntered (k : Config) (c : ℕ) (h : List Deed) (x : Option CallPlace) (es : List EndedCall) : Type 0 where
  pub counts : calls c h ≡ entered_calls c es + ahead x
  pub unworn : is_on x ≡ true → nat_le k.max_calls (entered_calls c es) ≡ false

-- the test of a step is that of its call
pub same_test : (k : Config) (c : ℕ) (h : List Deed) (f : CallPlace) (es : List EndedCall) → HasEntered k c h (Some f) es
    → (is_first (Some f) && nat_le k.max_calls (calls c h)) ≡ is_worn_after k (actor.Cpu c) (op.Cpu (op_of f)) es
same_test k c h (cpu.Begun o) es was =
    let counts = was.counts in
    let same : calls c h ≡ entered_calls c es = omega arith in
    ap (λ n. is_counted (op.Cpu o) && nat_le k.max_calls n) same
same_test k c h cpu.ServicePop es was = refl
same_test k c h cpu.ServicePush es was = refl
same_test k c h (cpu.ServiceLoad s sum) es was = refl
same_test k c h (cpu.ServiceStore s w sum) es was = refl
same_test k c h f es was = sym (was.unworn refl)

-- a call that counts and goes on is past its first step, whatever its step was
is_counted_on : (o : CpuOp) (x : CallPlace) → op_of x ≡ o → is_on (Some x) ≡ true → is_counted (op.Cpu o) ≡ true
is_counted_on o (cpu.Begun p) is now = absurd (cc (now))
is_counted_on o x is now = ap (λ y. is_counted (op.Cpu y)) (sym is) ∙ now

-- a call that isn't worn at a step isn't worn after it, where it counts
unworn_on : (k : Config) (c : ℕ) (o : CpuOp) (es : List EndedCall) → is_counted (op.Cpu o) ≡ true → is_worn_after k (actor.Cpu c) (op.Cpu o) es ≡ false
    → nat_le k.max_calls (entered_calls c es) ≡ false
unworn_on k c o es counted e = ap (λ b. b && nat_le k.max_calls (entered_calls c es)) (sym counted) ∙ e

-- a call that is noted where it ended
note_counts : (c : ℕ) (o : Op) (ds : List Deed) (st : PlayState) (r : Option Answer) (ns : List Noted)
    → entered_calls c (map ended (with_note (actor.Cpu c) o ds st r ns)) ≡ entered_calls c (map ended ns) + enters o r
note_counts c o ds st None ns = omega arith
note_counts c o ds st (Some a) ns = rw (number_is_itself c) refl

-- another's call counts nothing
pub note_beside : (b : ℕ) (a : Actor) (o : Op) (ds : List Deed) (st : PlayState) (r : Option Answer) (ns : List Noted) → is_by b a ≡ false
    → entered_calls b (map ended (with_note a o ds st r ns)) ≡ entered_calls b (map ended ns)
note_beside b a o ds st None ns other = refl
note_beside b a o ds st (Some x) ns other = rw other (omega arith)

pub note_right : (k : Config) (a : Actor) (o : Op) (ds : List Deed) (st : PlayState) (r : Option Answer) (ns : List Noted)
    → ((x : Answer) → r ≡ Some x → is_worn_answer x ≡ is_worn_after k a o (map ended ns))
    → AreWornRightly k (map ended ns) → AreWornRightly k (map ended (with_note a o ds st r ns))
note_right k a o ds st None ns is was = was
note_right k a o ds st (Some x) ns is was = (is x refl, was)

-- another's deeds are no calls of the CPU
pub calls_stay : (c : ℕ) (w : Actor) → same_actor (actor.Cpu c) w ≡ false → (ds h : List Deed) → AllBy w ds h → calls c (ds ++ h) ≡ calls c h
calls_stay c w other [] h by = refl
calls_stay c w other (d ∷ ds) h by =
    calls_other c d (ds ++ h) (subst (λ (x : Actor). same_actor (actor.Cpu c) x ≡ false) (same_actor_tells w (author d (ds ++ h)) by.1) other) ∙ calls_stay c w other ds h by.0

-- what a CPU has entered stays after another's step
pub entered_beside : (k : Config) (b : ℕ) (h g : List Deed) (x : Option CallPlace) (es fs : List EndedCall) → calls b g ≡ calls b h → entered_calls b fs ≡ entered_calls b es
    → HasEntered k b h x es → HasEntered k b g x fs
entered_beside k b h g x es fs same count was = record {
  counts = same ∙ (was.counts ∙ ap (λ n. n + ahead x) (sym count));
  unworn = λ on. ap (nat_le k.max_calls) count ∙ was.unworn on;
}

-- what a CPU has entered after its own step
pub entered_now : (shape : ℕ → Option Shape) (k : Config) (c : ℕ) (h : List Deed) (me : CpuProgress) (f : CallPlace) (ds : List Deed) (st : PlayState) (ns : List Noted)
    → HasEntered k c h (Some f) (map ended ns)
    → HasEntered k c ((cpu_step shape k c h me f).deeds ++ h) (cpu_step shape k c h me f).progress.flight
    (map ended (with_note (actor.Cpu c) (op.Cpu (op_of f)) ds st (cpu_step shape k c h me f).answer ns))
entered_now shape k c h me f ds st ns was =
    let m = cpu_step shape k c h me f in
    let wears = cpu_step_wears shape k c h me f in
    let more = wears.counts in
    let before = was.counts in
    let noted = note_counts c (op.Cpu (op_of f)) ds st m.answer ns in
    record {
      counts = omega arith;
      unworn = λ on. ⊎_elim
          (λ (e : HasEnded m). let idle = e.idle in absurd (cc (idle, on)))
          (λ (g : HasGoneOn k me _ _ m).
          let same : op_of g.next ≡ op_of f = step_passes (λ o. o ≡ op_of f) shape k c h me f refl g.next g.flight in
          let counted = is_counted_on (op_of f) g.next same (ap is_on (sym g.flight) ∙ on) in
          let unworn : is_worn_after k (actor.Cpu c) (op.Cpu (op_of f)) (map ended ns) ≡ false = sym (same_test k c h f (map ended ns) was) ∙ (sym wears.told ∙ ap is_told_worn g.answers) in
          subst (λ r. nat_le k.max_calls (entered_calls c (map ended (with_note (actor.Cpu c) (op.Cpu (op_of f)) ds st r ns))) ≡ false) (sym g.answers)
          (unworn_on k c (op_of f) (map ended ns) counted unworn))
          (cpu_advances shape k c h me f);
    }
