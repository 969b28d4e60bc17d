-- A session stays one where a CPU of it is called, or its consumer, or where both meet.
use Rattle.std.proofs.Common.{arith, ◌≡◌, ℕ, zero, suc, ◌<◌, ◌⊎◌, inl, inr, ⊎_elim, List, ◌∷◌, length, length-set, refl, sym, ap, ◌∙◌, subst}
use Rattle.std.proofs.lemmas.{Bool.Decides.nat_tests, Option.slice_get_read}
use Rattle.std.specs.Prelude.{Some, slice_get, slice_set, slice_index_or}
use Rattle.dspec_session_core.specs.Words.{start_fault, set_up, words_of, identity, IsConsumerOf, IsSameConsumer, pairs_of, IsCpuOf, IsSession, Cpu, Shared}
use Rattle.dspec_session_core.specs.declared.session.Session.{Session}

-- what stands in a list in which one element was set
set_there : {A : Type 0} (xs : List A) (i j : ℕ) (y x : A) → slice_get (slice_set xs i y) j ≡ Some x → ((j ≡ i) × (y ≡ x)) ⊎ (slice_get xs j ≡ Some x)
set_there (z ∷ xs) zero zero y x e = inl (refl, cc (e))
set_there (z ∷ xs) (suc i) (suc j) y x e = ⊎_elim (λ h. inl (ap suc h.0, h.1)) (λ h. inr h) (set_there xs i j y x e)
set_there xs i j y x e = inr e

module _ {S : Type 0} (schema : S) where
  -- the CPU at a place of a session
  pub cpu_there : (s : Session S) (c : ℕ) (cpu : Cpu S) → IsSession schema s → c < length s.cpus.items → cpu ≡ slice_index_or s.cpus.items c cpu
      → IsCpuOf schema (words_of s.shared) c (slice_get (pairs_of s.consumer) c) (identity cpu)
  cpu_there s c cpu is within read = is.each c cpu (slice_get_read s.cpus.items (length s.cpus.items) c cpu refl within read)

  -- The CPU at a place was called, or met the consumer: both are what they were.
  pub met_there : (old new : Session S) (c : ℕ) (was cpu : Cpu S) → IsSession schema old → c < length old.cpus.items → was ≡ slice_index_or old.cpus.items c was
      → identity cpu ≡ identity was → IsConsumerOf (words_of old.shared) new.consumer → pairs_of new.consumer ≡ pairs_of old.consumer
      → new.shared ≡ old.shared → new.cpus.items ≡ slice_set old.cpus.items c cpu → IsSession schema new
  met_there old new c was cpu is within read same consumer pairs shared set =
      let words = ap (λ (x : Shared). words_of x) shared in
      let after = subst (λ i. IsCpuOf schema (words_of old.shared) c (slice_get (pairs_of old.consumer) c) i) (sym same) (cpu_there old c was is within read) in
      record {
        checked = ap (λ w. start_fault (set_up w)) words ∙ is.checked;
        consumer = subst (λ w. IsConsumerOf w new.consumer) (sym words) consumer;
        all = ap (λ (xs : List (Cpu S)). length xs) set ∙ (length-set old.cpus.items c cpu ∙ (is.all ∙ ap (λ w. (set_up w).cpus) (sym words)));
        each = λ n x there.
            subst (λ w. IsCpuOf schema w n (slice_get (pairs_of new.consumer) n) (identity x)) (sym words)
            (subst (λ ps. IsCpuOf schema (words_of old.shared) n (slice_get ps n) (identity x)) (sym pairs)
            (⊎_elim
            (λ h. subst (λ m. IsCpuOf schema (words_of old.shared) m (slice_get (pairs_of old.consumer) m) (identity x)) (sym h.0)
            (subst (λ y. IsCpuOf schema (words_of old.shared) c (slice_get (pairs_of old.consumer) c) (identity y)) h.1 after))
            (λ h. is.each n x h)
            (set_there old.cpus.items c n cpu x (ap (λ (xs : List (Cpu S)). slice_get xs n) (sym set) ∙ there))));
      }

  -- the consumer was called
  pub consumer_called : (old new : Session S) → IsSession schema old → IsConsumerOf (words_of old.shared) new.consumer → IsSameConsumer old.consumer new.consumer
      → new.shared ≡ old.shared → new.cpus ≡ old.cpus → IsSession schema new
  consumer_called old new is consumer same shared cpus = grind (arith, nat_tests)
