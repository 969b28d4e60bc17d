-- Whether a CPU or the consumer is handed out.
use Rattle.std.proofs.Common.{◌≡◌, ℕ, Bool, true, false, Option, Some, None, refl, sym, ap, ◌∙◌, subst, inl, inr}
use Rattle.std.specs.Prelude.{MatchBool, nat_lt, if◌then◌else◌}
use Rattle.dspec_c.specs.Words.{Config, start_fault, EnabledRows, GivesCpu, HandsOut, HandsOutCpu, KeptSo, StartsSo, consumer_due, cpu_due, already_out, no_memory, no_such_cpu, Going, IsJustStarted}
use Rattle.dspec_c.specs.Words.{LooksAtOne, LooksIfThere, inside_at}
use Rattle.dspec_c.specs.declared.handle.Handle.{Handle}

pub due_unknown : (c : ℕ) (old : Going) → nat_lt c old.cpus ≡ false → cpu_due c old ≡ Some no_such_cpu
due_unknown c old e = ap (λ (b : Bool). if b then (if inside_at c old.places then None else Some already_out) else Some no_such_cpu) e

pub due_out : (c : ℕ) (old : Going) → nat_lt c old.cpus ≡ true → inside_at c old.places ≡ false → cpu_due c old ≡ Some already_out
due_out c old e f = ap (λ (b : Bool). if b then (if inside_at c old.places then None else Some already_out) else Some no_such_cpu) e
    ∙ ap (λ (b : Bool). if b then None else Some already_out) f

pub due_none : (c : ℕ) (old : Going) → nat_lt c old.cpus ≡ true → inside_at c old.places ≡ true → cpu_due c old ≡ None
due_none c old e f = ap (λ (b : Bool). if b then (if inside_at c old.places then None else Some already_out) else Some no_such_cpu) e
    ∙ ap (λ (b : Bool). if b then None else Some already_out) f

pub theirs_none : (old : Going) → old.consumer.waits ≡ true → consumer_due old ≡ None
theirs_none old e = ap (λ (b : Bool). if b then None else Some already_out) e

module _ (gives : Going → Going → Handle → Type 0) (due : Option ℕ) (old : Going) (status : ℕ) (new : Going) (was now : Handle) where
  pub refused : (why : ℕ) → due ≡ Some why → status ≡ why → new ≡ old → now ≡ was → HandsOut gives due old status new was now
  refused why e is same kept = subst (λ (o : Option ℕ). HandsOut gives o old status new was now) (sym e) (is, (same, kept))

  pub no_room : due ≡ None → status ≡ no_memory → new ≡ old → now ≡ was → HandsOut gives due old status new was now
  no_room e is same kept = subst (λ (o : Option ℕ). HandsOut gives o old status new was now) (sym e) (inr (is, (same, kept)))

  pub given : due ≡ None → status ≡ 0 → gives old new now → HandsOut gives due old status new was now
  given e is done = subst (λ (o : Option ℕ). HandsOut gives o old status new was now) (sym e) (inl (is, done))

-- a CPU that there isn't
pub no_cpu : (c : ℕ) (old : Going) (was : Handle) → nat_lt c old.cpus ≡ false → HandsOutCpu c old no_such_cpu old was was
no_cpu c old was e = (
  old,
  subst (λ (b : Bool). MatchBool b (LooksAtOne c old old) (old ≡ old)) (sym e) refl,
  refused (GivesCpu c) (cpu_due c old) old no_such_cpu old was was no_such_cpu (due_unknown c old e) refl refl refl,
)

looks_there : (c : ℕ) (old looked : Going) → nat_lt c old.cpus ≡ true → LooksAtOne c old looked → LooksIfThere c old looked
looks_there c old looked e is = subst (λ (b : Bool). MatchBool b (LooksAtOne c old looked) (looked ≡ old)) (sym e) is

still_there : (c : ℕ) (old looked : Going) → nat_lt c old.cpus ≡ true → LooksAtOne c old looked → nat_lt c looked.cpus ≡ true
still_there c old looked e is = ap (λ (n : ℕ). nat_lt c n) is.cpus ∙ e

-- one that a look didn't find at its place
pub cpu_is_out : (c : ℕ) (old looked : Going) (was : Handle) → nat_lt c old.cpus ≡ true → LooksAtOne c old looked → inside_at c looked.places ≡ false
    → HandsOutCpu c old already_out looked was was
cpu_is_out c old looked was e is f = (
  looked,
  looks_there c old looked e is,
  refused (GivesCpu c) (cpu_due c looked) looked already_out looked was was already_out (due_out c looked (still_there c old looked e is) f) refl refl refl,
)

-- and one that it found there
pub cpu_is_in : (c : ℕ) (old looked new : Going) (status : ℕ) (was now : Handle) → nat_lt c old.cpus ≡ true → LooksAtOne c old looked → inside_at c looked.places ≡ true
    → HandsOut (GivesCpu c) None looked status new was now → HandsOutCpu c old status new was now
cpu_is_in c old looked new status was now e is f given = (
  looked,
  looks_there c old looked e is,
  subst (λ (o : Option ℕ). HandsOut (GivesCpu c) o looked status new was now) (sym (due_none c looked (still_there c old looked e is) f)) given,
)

-- a session that was asked for and begun
pub starts : (o : Option Config) (k : Config) (schema : EnabledRows) (whole : Going) (status : ℕ) (was now : Handle) → Some k ≡ o → start_fault k ≡ None → IsJustStarted k schema whole
    → KeptSo whole status was now → StartsSo o schema status was now
starts o k schema whole status was now e fine begun (inl is) = subst (λ (p : Option Config). StartsSo p schema status was now) e
    (inl (fine, inl (is.0, record { full = is.1; whole = whole; holds = is.2; begun = begun })))
starts o k schema whole status was now e fine begun (inr is) = subst (λ (p : Option Config). StartsSo p schema status was now) e (inl (fine, inr is))
