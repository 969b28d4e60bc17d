-- A CPU's call that runs alone moves its own side and the list only. What all such calls have in common.
use Prim.Native.Nat.{zero, suc}
use Rattle.std.proofs.Common.{◌≡◌, ℕ, ◌<◌, List, [], ◌∷◌, ◌++◌, length, Option, Some, None, refl, ap, ◌∙◌, ◌+◌, ◌≤◌, Bool, true, false, not, if◌then◌else◌, arith}
use Rattle.std.proofs.lemmas.{Bool.Decides.nat_tests, List.get_or-set_same}
use Rattle.std.specs.Prelude.{slice_set}
use Rattle.dspec_interleaving.specs.Words.{Shape, Config, Answer, CpuOp, Deed, CpuStep, cpu_step, PlayState, progress_of, idle_progress, Stepped, begin_cpu, moved_to, step_cpu, on_to_end, WholeCpu}
use Rattle.dspec_interleaving.specs.Words.{after_cpu, Speculation, halted, in_range, opened, verdict, is_undecided, is_open, IsSound, is_worn, call_goes_on, ends, wears, begun, enters, wears_out}
use Rattle.dspec_interleaving.specs.Words.{measured}
use Rattle.dspec_interleaving.specs.declared.flight.{CallPlace.CallPlace, CpuProgress.CpuProgress}
use Rattle.dspec_deeds.specs.declared.calls.Actor.TheVariants as actor
use Rattle.dspec_interleaving.specs.declared.flight.CallPlace.TheVariants as cpu
use Rattle.dspec_deeds.proofs.{SoundLists.opened_in_range, TestLemmas.and_tells, TestLemmas.off}

-- a CPU's side, the list, and the answer where the call has ended
pub record Lone : Type 0 where
  pub progress : CpuProgress
  pub list : List Deed
  pub answer : Option Answer

abbrev pub whole : WholeCpu → Lone
whole w = record { progress = w.progress; list = w.list; answer = Some w.answer }

module _ (shape : ℕ → Option Shape) (k : Config) (c : ℕ) where
  abbrev pub moves : CpuProgress → List Deed → Option CallPlace → CpuStep
  moves me h None = record { progress = me; deeds = []; answer = None }
  moves me h (Some f) = cpu_step shape k c h me f

  -- so many steps of the CPU's call at the most
  abbrev pub runs : ℕ → CpuProgress → List Deed → Option Answer → Lone
  runs zero me h r = record { progress = me; list = h; answer = r }
  runs (suc n) me h (Some r) = record { progress = me; list = h; answer = Some r }
  runs (suc n) me h None = runs n (moves me h me.flight).progress ((moves me h me.flight).deeds ++ h) (moves me h me.flight).answer

set_twice : (all : List CpuProgress) (c : ℕ) (x y : CpuProgress) → slice_set (slice_set all c x) c y ≡ slice_set all c y
set_twice [] c x y = refl
set_twice (a ∷ all) zero x y = refl
set_twice (a ∷ all) (suc c) x y = ap (λ l. a ∷ l) (set_twice all c x y)

pub set_read : (all : List CpuProgress) (c : ℕ) (x : CpuProgress) → c < length all → progress_of (slice_set all c x) c ≡ x
set_read all c x lt = get_or-set_same all c x idle_progress lt

module _ (shape : ℕ → Option Shape) (c : ℕ) (st : PlayState) (there : c < length st.progresses) where
  -- the state with the CPU's side and the list
  abbrev at : CpuProgress → List Deed → PlayState
  at me h = record st { deeds = h; progresses = slice_set st.progresses c me }

  abbrev pub lone : Lone → Stepped
  lone l = record { state = at l.progress l.list; answer = l.answer }

  one : (me : CpuProgress) (h : List Deed) (f : Option CallPlace)
      → step_cpu shape c (at me h) f ≡ lone record
      { progress = (moves shape st.config c me h f).progress; list = (moves shape st.config c me h f).deeds ++ h; answer = (moves shape st.config c me h f).answer }
  one me h None = refl
  one me h (Some f) =
      ap (λ (x : CpuProgress). moved_to (at me h) c (cpu_step shape st.config c h x f)) (set_read st.progresses c me there)
      ∙ ap (λ (l : List CpuProgress). record {
        state = record st { deeds = (cpu_step shape st.config c h me f).deeds ++ h; progresses = l };
        answer = (cpu_step shape st.config c h me f).answer;
      }) (set_twice st.progresses c me (cpu_step shape st.config c h me f).progress)

  -- the steps of the play are those of the CPU alone
  alone : (n : ℕ) (me : CpuProgress) (h : List Deed) (r : Option Answer) → on_to_end shape n (actor.Cpu c) (at me h) r ≡ lone (runs shape st.config c n me h r)
  alone zero me h r = refl
  alone (suc n) me h (Some r) = refl
  alone (suc n) me h None =
      ap (λ (s : Stepped). on_to_end shape n (actor.Cpu c) s.state s.answer)
      (ap (λ (x : CpuProgress). step_cpu shape c (at me h) x.flight) (set_read st.progresses c me there) ∙ one me h me.flight)
      ∙ alone n (moves shape st.config c me h me.flight).progress ((moves shape st.config c me h me.flight).deeds ++ h) (moves shape st.config c me h me.flight).answer

  -- a call that begins and runs alone does what its steps do of the CPU's side and the list
  pub call_alone : (o : CpuOp) (n : ℕ) (w : WholeCpu) → runs shape st.config c n (record (progress_of st.progresses c) { flight = Some (cpu.Begun o); steps = 0 }) st.deeds None ≡ whole w
      → on_to_end shape n (actor.Cpu c) (begin_cpu c o st) None ≡ record { state = after_cpu c w st; answer = Some w.answer }
  call_alone o n w e = alone n (record (progress_of st.progresses c) { flight = Some (cpu.Begun o); steps = 0 }) st.deeds None ∙ ap lone e

-- a CPU's side at the beginning of a call, and after one
abbrev pub begins : CpuProgress → CpuOp → CpuProgress
begins me o = record me { flight = Some (cpu.Begun o); steps = 0 }

abbrev pub idle : CpuProgress → CpuProgress
idle me = record me { flight = None; steps = 0 }

-- one step later
abbrev pub later : CpuProgress → CallPlace → CpuProgress
later me f = record me { flight = Some f; steps = me.steps + 1 }

-- an open speculation is of a slot that there is
pub open_in_range : (k : Config) (h : List Deed) (id : Speculation) → 1 ≤ k.nspec → IsSound k h → is_open id h ≡ true → in_range k id ≡ true
open_in_range k h id some sound o = let at = opened_in_range k h id some sound (and_tells (opened id h) (is_undecided (verdict id h)) o).0 in grind (arith, nat_tests)

module _ (shape : ℕ → Option Shape) (k : Config) (c : ℕ) where
  -- after a step, more steps of the call lead to what the whole call leaves
  pub record Leads (h : List Deed) (m : CpuStep) (w : WholeCpu) : Type 0 where
    pub steps : ℕ
    pub is : runs shape k c steps m.progress (m.deeds ++ h) m.answer ≡ whole w

  -- the same, before the call's first step
  pub record RunsTo (h : List Deed) (me : CpuProgress) (w : WholeCpu) : Type 0 where
    pub steps : ℕ
    pub is : runs shape k c steps me h None ≡ whole w

module _ {shape : ℕ → Option Shape} {k : Config} {c : ℕ} {h : List Deed} where
  -- the step is the call's last
  pub ended : {ds : List Deed} {a : Answer} (me : CpuProgress) → Leads shape k c h (ends me ds a) (enters shape k c (idle me) (ds ++ h) a)
  ended me = record { steps = 0; is = refl }

  -- a worn call's only step
  pub worn : {a : Answer} (me : CpuProgress) → Leads shape k c h (wears me a) (wears_out shape k c (idle me) h a)
  worn me = record { steps = 0; is = refl }

  -- the call goes on, and its next step leads there
  pub goes : {ds : List Deed} {f : CallPlace} {w : WholeCpu} (me : CpuProgress) → Leads shape k c (ds ++ h) (cpu_step shape k c (ds ++ h) (later me f) f) w
      → Leads shape k c h (call_goes_on me ds f) w
  goes me l = record { steps = suc l.steps; is = l.is }

  -- by a test, whichever way it falls, or the way that is known
  pub on_test : (b : Bool) {x y : CpuStep} {w : WholeCpu} → (b ≡ true → Leads shape k c h x w) → (b ≡ false → Leads shape k c h y w) → Leads shape k c h (if b then x else y) w
  on_test true t f = t refl
  on_test false t f = f refl

  pub on_true : (b : Bool) {x : CpuStep} (y : CpuStep) {w : WholeCpu} → b ≡ true → Leads shape k c h x w → Leads shape k c h (if b then x else y) w
  on_true b y is l = on_test b (λ t. l) (λ f. off b is f)

  pub on_false : (b : Bool) (x : CpuStep) {y : CpuStep} {w : WholeCpu} → b ≡ false → Leads shape k c h y w → Leads shape k c h (if b then x else y) w
  on_false b x is l = on_test b (λ t. off b t is) (λ f. l)

  -- both by the same test
  pub both : (b : Bool) {x y : CpuStep} {u v : WholeCpu} → (b ≡ true → Leads shape k c h x u) → (b ≡ false → Leads shape k c h y v)
      → Leads shape k c h (if b then x else y) (if b then u else v)
  both true t f = t refl
  both false t f = f refl

  -- what the whole call leaves depends on a test
  pub whole_not : (b : Bool) {m : CpuStep} {u v : WholeCpu} → (b ≡ false → Leads shape k c h m u) → (b ≡ true → Leads shape k c h m v) → Leads shape k c h m (if not b then u else v)
  whole_not true f t = t refl
  whole_not false f t = f refl

  -- the steps of a call that begins
  pub starts : {w : WholeCpu} (me : CpuProgress) (o : CpuOp) → Leads shape k c h (begun k c (measured shape k c h) (begins me o) o) w → RunsTo shape k c h (begins me o) w
  starts me o l = record { steps = suc l.steps; is = l.is }

  -- a call on an identifier: where the slot is in range, its word is loaded next
  pub asks_leads : {z : Answer} {v : Deed} {w : WholeCpu} (me : CpuProgress) (id : Speculation) (load : CallPlace) (a b : Answer) (d : Deed) → IsSound k h → 1 ≤ k.nspec
      → (is_open id h ≡ false → Leads shape k c h (cpu_step shape k c h (later me load) load) (enters shape k c (idle me) (v ∷ h) z))
      → (is_open id h ≡ true → Leads shape k c h (cpu_step shape k c h (later me load) load) w)
      → Leads shape k c h
      (if is_worn k c h then wears me a else if halted h then ends me (d ∷ []) b else if in_range k id then call_goes_on me [] load else ends me (v ∷ []) z)
      (if is_worn k c h then wears_out shape k c (idle me) h a else if halted h then enters shape k c (idle me) (d ∷ h) b else if not (is_open id h) then enters shape k c (idle me) (v ∷ h) z else w)
  asks_leads me id load a b d sound some shut given = both (is_worn k c h) (λ t. worn me) (λ f. both (halted h) (λ t. ended me) (λ g. whole_not (is_open id h)
      (λ e. on_test (in_range k id) (λ t. goes me (shut e)) (λ u. ended me))
      (λ e. on_true (in_range k id) _ (open_in_range k h id some sound e) (goes me (given e)))))
