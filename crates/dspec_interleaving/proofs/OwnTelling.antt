-- What a call holds of its own deeds, and that other actors' deeds leave it.
use Rattle.std.proofs.Common.{◌≡◌, ℕ, ◌+◌, ◌-◌, ◌^◌, Bool, true, false, List, [], ◌∷◌, ◌++◌, Option, Some, None, if◌then◌else◌, refl, sym, ◌∙◌, subst}
use Rattle.std.specs.Prelude.{min}
use Rattle.dspec_interleaving.specs.Words.{is_busy_among, has_seal, settle_count, answer_of_cpu, author, same_actor, CpuStep, answer_of, is_worn_answer, missed_busy, Actor, Cpu, Answer, CpuOp}
use Rattle.dspec_interleaving.specs.Words.{Served, DecideFate, Deed, Miss, Commit, Seal}
use Rattle.dspec_interleaving.specs.declared.flight.{CallPlace.CallPlace, CpuProgress.CpuProgress}
use Rattle.dspec_deeds.specs.declared.calls.Answer.TheVariants as answer
use Rattle.dspec_deeds.specs.declared.calls.Opening.TheVariants as opening
use Rattle.dspec_deeds.specs.declared.deed.DecideFate.TheVariants as decided
use Rattle.dspec_interleaving.specs.declared.flight.CallPlace.TheVariants as cpu
use Rattle.dspec_deeds.proofs.{Going.AllBy, StayingOwn.missed_other, TestLemmas.number_is_itself, TestLemmas.same_actor_tells}

-- what a service has done so far
abbrev pub HasServed : Served → List Deed → Type 0
HasServed sum ds = (has_seal ds ≡ sum.sealed) × (settle_count ds ≡ sum.settled)

-- what a CPU's call in flight has entered, the latest first
abbrev pub OwnDeeds : ℕ → List Deed → CallPlace → List Deed → Type 0
OwnDeeds c h (cpu.ScanLoad s) ds = is_busy_among ds ≡ missed_busy c h
OwnDeeds c h (cpu.ScanTry s w) ds = is_busy_among ds ≡ missed_busy c h
OwnDeeds c h (cpu.CommitRelease id f) ds = ds ≡ Commit c id f ∷ []
OwnDeeds c h cpu.ServicePush ds = ds ≡ Seal c ∷ []
OwnDeeds c h (cpu.ServiceLoad s sum) ds = HasServed sum ds
OwnDeeds c h (cpu.ServiceStore s w sum) ds = HasServed sum ds
OwnDeeds c h f ds = ds ≡ []

-- the same, if a call is in flight
abbrev pub OwnsCall : ℕ → List Deed → Option CallPlace → List Deed → Type 0
OwnsCall c h None ds = Unit {0}
OwnsCall c h (Some f) ds = OwnDeeds c h f ds

-- the answer, where there is one
abbrev pub Tells : Option Answer → Answer → Type 0
Tells None x = Unit {0}
Tells (Some a) x = a ≡ x

-- the count of a CPU's worn calls after a step
abbrev pub worn_after : ℕ → Option Answer → ℕ
worn_after n None = n
worn_after n (Some a) = if is_worn_answer a then min (n + 1) (2 ^ 64 - 1) else n

-- what a step makes of a call that had entered those deeds
pub record ReadsOff (c : ℕ) (h : List Deed) (me : CpuProgress) (o : CpuOp) (own : List Deed) (m : CpuStep) : Type 0 where
  pub holds : OwnsCall c (m.deeds ++ h) m.progress.flight (m.deeds ++ own)
  pub reads : Tells m.answer (answer_of_cpu o (m.deeds ++ own))
  pub wears : m.progress.worn ≡ worn_after me.worn m.answer

-- another's deeds leave what the CPU's call has missed
missed_stays : (c : ℕ) (w : Actor) → same_actor (Cpu c) w ≡ false → (ds h : List Deed) → AllBy w ds h → missed_busy c (ds ++ h) ≡ missed_busy c h
missed_stays c w other [] h by = refl
missed_stays c w other (d ∷ ds) h by =
    missed_other c d (ds ++ h) (subst (λ (x : Actor). same_actor (Cpu c) x ≡ false) (same_actor_tells w (author d (ds ++ h)) by.1) other) ∙ missed_stays c w other ds h by.0

-- another's deeds leave what a CPU's call has entered as it was
pub others_own : (c : ℕ) (w : Actor) → same_actor (Cpu c) w ≡ false → (ds h : List Deed) → AllBy w ds h → (x : Option CallPlace) (own : List Deed) → OwnsCall c h x own → OwnsCall c (ds ++ h) x own
others_own c w other ds h by (Some (cpu.ScanLoad s)) own was = was ∙ sym (missed_stays c w other ds h by)
others_own c w other ds h by (Some (cpu.ScanTry s v)) own was = was ∙ sym (missed_stays c w other ds h by)
others_own c w other ds h by x own was = was

-- a slot missed now, among those missed
pub busy_now : (c s : ℕ) (b : Bool) (h own : List Deed) → is_busy_among own ≡ missed_busy c h → is_busy_among (Miss c s b ∷ own) ≡ missed_busy c (Miss c s b ∷ h)
busy_now c s true h own e = rw (number_is_itself c) refl
busy_now c s false h own e = e

-- how a call of speculation that misses the last slot fails is no Worn
pub fails_unworn : (b : Bool) → is_worn_answer (answer.Opening (if b then opening.Busy else opening.Unavailable)) ≡ false
fails_unworn true = refl
fails_unworn false = refl

-- no decision's fate is a Worn
pub told_unworn : (f : DecideFate) → is_worn_answer (answer_of f) ≡ false
told_unworn (decided.Copied n) = refl
told_unworn f = refl
