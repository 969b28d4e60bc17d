-- Serves proofs. What one CPU decides alone is released by its own call, at once or in its next step, which is the call's last; and only
-- steps of CPUs decide.
use Rattle.std.specs.Prelude.{ℕ, ◌≡◌, ◌⊎◌, List, ◌∷◌, Some, None}
use Rattle.dspec_interleaving.specs.{Coherent.progress_of, Turns.Stepped, Words.Outside.Speculation, Words.Outside.verdict, Words.Outside.solo, Words.Outside.answer_of, Words.Outside.Answer}
use Rattle.dspec_interleaving.specs.{Words.Outside.DecideFate, Words.Outside.Deed, Words.Outside.Commit, Words.Outside.Discard, Words.Outside.Release}
use Rattle.dspec_deeds.specs.declared.deed.DecideFate.TheVariants as decided
use Rattle.dspec_interleaving.specs.declared.flight.CallPlace.TheVariants as cpu

-- the step is its call's last: it answers, and the CPU has no call in flight
pub record IsLast (c : ℕ) (told : Answer) (t : Stepped) : Type 0 where
  pub answer : t.answer ≡ Some told
  pub idle : (progress_of t.state.progresses c).flight ≡ None

-- the call goes on, and its next step releases the slot
pub record ReleasesThen (c : ℕ) (id : Speculation) (f : DecideFate) (t : Stepped) : Type 0 where
  pub answer : t.answer ≡ None
  pub next : (progress_of t.state.progresses c).flight ≡ Some (cpu.CommitRelease id f)

-- the step discards and releases the slot, and is its call's last; or it commits, and its call's next step releases
abbrev pub IsReleasing : ℕ → Speculation → List Deed → Stepped → Type 0
IsReleasing c id h t =
    ((n : ℕ) × (t.state.deeds ≡ Release id.slot ∷ Discard c id (decided.Thrown n) ∷ h) × IsLast c (answer_of (decided.Thrown n)) t)
    ⊎ ((f : DecideFate) × (t.state.deeds ≡ Commit c id f ∷ h) × ReleasesThen c id f t)

-- the step releases the slot, and is its call's last
pub record ReleasesLast (c : ℕ) (id : Speculation) (f : DecideFate) (h : List Deed) (t : Stepped) : Type 0 where
  pub deeds : t.state.deeds ≡ Release id.slot ∷ h
  pub last : IsLast c (answer_of f) t

-- whether, and by whom, each speculation was decided stays as it was
pub record DecidesNothing (h g : List Deed) : Type 0 where
  pub verdicts : (id : Speculation) → verdict id g ≡ verdict id h
  pub solos : (id : Speculation) → solo id g ≡ solo id h
