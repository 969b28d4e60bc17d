-- A call on what a handle holds is one on the CPU, or the consumer, that is there.
use Rattle.std.proofs.Common.{◌≡◌, ℕ, Bool, true, false, refl, Option, Some, None, sym, subst, ap, ◌∙◌}
use Rattle.std.specs.Prelude.{if◌then◌else◌, Result, Ok, Err, IfErr, IfNone, IfSome, MatchOption, MatchResult, OnErr, OnOk}
use Rattle.dspec_c.specs.Words.{Batch, EnabledRows, FoundNone, GaveBack, IsNotTakenBack, Took, Consuming, OnConsumer, OnTheirs, Theirs, OnCpu, OnSide, one_refused, CpuSide, held_in, with_held}
use Rattle.dspec_c.specs.Words.{identity, Cpu, Shared, OnTableAlone, Paths, OnTable}
use Rattle.dspec_c.specs.declared.{consumer_side.ConsumerSide.ConsumerSide, handle.Handle.Handle, held.HandleValue.HandleValue}
use Rattle.dspec_c.specs.declared.held.HandleValue.TheVariants as held
use Rattle.dspec_c.proofs.Options.{unless}

-- where the CPU is in a box
pub on_boxed : (refuses : Bool) (did : Cpu EnabledRows → Cpu EnabledRows → Type 0) (old : CpuSide) (shared : Shared) (was cpu : Cpu EnabledRows) (refused : ℕ) (new : CpuSide)
    → record { shared = shared; cpu = cpu; refused = refused } ≡ old → was ≡ cpu → new.shared ≡ shared → identity new.cpu ≡ identity was → did was new.cpu
    → new.refused ≡ one_refused refuses refused → OnSide refuses did old new
on_boxed refuses did old shared was cpu refused new e f there same done count = subst (λ (s : CpuSide). OnSide refuses did s new) e (record {
  shared = there;
  same = same ∙ ap (λ (x : Cpu EnabledRows). identity x) f;
  cpu = subst (λ (x : Cpu EnabledRows). did x new.cpu) f done;
  refused = count;
})

pub on_cpu : (did : CpuSide → CpuSide → Type 0) (stays : Type 0) (was : HandleValue) (status : ℕ) (now : HandleValue) (old new : CpuSide) → was ≡ held.Cpu old → now ≡ held.Cpu new → did old new
    → OnCpu did stays was status now
on_cpu did stays was status now old new e f done = subst (λ (h : HandleValue). OnCpu did stays h status now) (sym e) (new, f, done)

abbrev has_some : HandleValue → Bool
has_some held.Nothing = false
has_some h = true

-- a handle that isn't empty has what is put into it
holds : (full : Bool) (was kind now : HandleValue) → has_some kind ≡ true → (if full then was else held.Nothing) ≡ kind → (if full then now else held.Nothing) ≡ now
holds true was kind now some e = refl
holds false was kind now some e = absurd (subst (λ y. unless y) (ap has_some e ∙ some) tt)

-- what is lent of a handle
pub lent_so : (P : HandleValue → HandleValue → Type 0) (h : Handle) (v was now : HandleValue) → v ≡ held_in h → v ≡ was → has_some was ≡ true → P was now → P (held_in h) (held_in (with_held h now))
lent_so P h v was now e f some is = subst (λ x. P x (held_in (with_held h now))) (sym (sym e ∙ f))
    (subst (λ y. P was y) (sym (holds h.held h.seal.inside.held was now some (sym e ∙ f))) is)

pub on_lent : (did : CpuSide → CpuSide → Type 0) (stays : Type 0) (h : Handle) (v : HandleValue) (status : ℕ) (old new : CpuSide) → v ≡ held_in h → v ≡ held.Cpu old → did old new
    → OnCpu did stays (held_in h) status (held_in (with_held h (held.Cpu new)))
on_lent did stays h v status old new e f done = lent_so (λ was now. OnCpu did stays was status now) h v (held.Cpu old) (held.Cpu new) e f refl (new, refl, done)

pub on_lent_consumer : (did : ConsumerSide → ConsumerSide → Type 0) (stays : Type 0) (h : Handle) (v : HandleValue) (status : ℕ) (old new : ConsumerSide) → v ≡ held_in h
    → v ≡ held.Consumer old → did old new → OnConsumer did stays (held_in h) status (held_in (with_held h (held.Consumer new)))
on_lent_consumer did stays h v status old new e f done = lent_so (λ was now. OnConsumer did stays was status now) h v (held.Consumer old) (held.Consumer new) e f refl (new, refl, done)

pub on_theirs : (did : Consuming → Consuming → Type 0) (old was new : Theirs) → was ≡ old → new.shared ≡ was.shared → did was.consumer new.consumer → OnTheirs did old new
on_theirs did old was new e shared done = subst (λ (s : Theirs). OnTheirs did s new) e (record { shared = shared; consumer = done })

-- a batch was taken, or none had come
pub took_so : (c : ℕ) (a : Option Batch) (old was new : Theirs) → was ≡ old → new.shared ≡ was.shared → IfSome a (λ b. Took c b was.consumer new.consumer)
    → IfNone a (FoundNone c was.consumer new.consumer) → MatchOption a (OnTheirs (FoundNone c) old new) (λ b. OnTheirs (Took c b) old new)
took_so c None old was new e shared some none = on_theirs (FoundNone c) old was new e shared none
took_so c (Some b) old was new e shared some none = on_theirs (Took c b) old was new e shared some

-- it went back, or is still there
pub gave_so : {U : Type 0} (batch : Batch) (a : Result U Batch) (old was new : Theirs) → was ≡ old → new.shared ≡ was.shared → OnOk a (GaveBack batch was.consumer new.consumer)
    → IfErr a (λ back. back ≡ batch) → OnErr a (IsNotTakenBack batch was.consumer new.consumer)
    → MatchResult a (λ _. OnTheirs (GaveBack batch) old new) (λ back. (back ≡ batch) × OnTheirs (IsNotTakenBack batch) old new)
gave_so batch (Ok u) old was new e shared given back why = on_theirs (GaveBack batch) old was new e shared given
gave_so batch (Err b) old was new e shared given back why = (back, on_theirs (IsNotTakenBack batch) old was new e shared why)

-- on the table that is there
pub on_lent_table : (did : Paths → Paths → Type 0) (stays : Type 0) (h : Handle) (v : HandleValue) (status : ℕ) (table lent new : Paths) → v ≡ held_in h → v ≡ held.Paths table → lent ≡ table
    → did lent new → OnTableAlone did stays (held_in h) status (held_in (with_held h (held.Paths new)))
on_lent_table did stays h v status table lent new e f g done = lent_so (λ was now. OnTableAlone did stays was status now) h v (held.Paths table) (held.Paths new) e f refl
    (new, refl, subst (λ (t : Paths). did t new) g done)

-- and by that on what another handle holds
pub on_lent_both : (did : Paths → Paths → CpuSide → CpuSide → Type 0) (stays : Type 0) (h : Handle) (v cpu side : HandleValue) (status : ℕ) (table lent new : Paths) → v ≡ held_in h
    → v ≡ held.Paths table → lent ≡ table → OnCpu (did lent new) ((new ≡ lent) × stays) cpu status side
    → OnTable did stays (held_in h) cpu status (held_in (with_held h (held.Paths new))) side
on_lent_both did stays h v cpu side status table lent new e f g done = lent_so (λ was now. OnTable did stays was cpu status now side) h v (held.Paths table) (held.Paths new) e f refl
    (new, refl, subst (λ (t : Paths). OnCpu (did t new) ((new ≡ t) × stays) cpu status side) g done)
