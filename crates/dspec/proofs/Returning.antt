-- What was lent of a session is given back.
use Rattle.std.proofs.{Common.arith, Common.◌≡◌, Common.ℕ, Common.◌<◌, Common.◌++◌, Common.List, Common.length, Common.take, Common.drop, Common.Some, Common.refl, Common.get_or}
use Rattle.std.proofs.{Math.Seq.take-append_seam, lemmas.Bool.Decides.nat_tests, lemmas.Option.slice_get_read}
use Rattle.std.specs.Prelude.{slice_get}
use Rattle.dspec.specs.Words.{Cpu, Shared, Deed, CallsMade, called, no_calls, words_of, IsCallable, Stays, IsFresh, IsSession, AllCallable, AllReturned, Session}

module _ {S : Type 0} where
  -- each CPU of a session can be lent
  pub all_callable : (schema : S) (session : Session S) → IsSession schema session → AllCallable session.shared session.cpus.items
  all_callable schema session is c cpu at = (is.each c cpu at).belongs

  -- with all CPUs and the consumer back it is a session again
  pub session_again : (does : S → ℕ → CallsMade → CallsMade → Type 0) (schema : S) (session back : Session S) → IsSession schema session
      → AllReturned does session.cpus.items back.cpus.items → Stays (words_of session.shared) session.consumer back.consumer
      → IsSession schema (record { shared = session.shared; cpus = back.cpus; consumer = back.consumer })
  session_again does schema session back is returned stays = grind (arith, nat_tests)

  -- a CPU is at its place
  pub there : (shared : Shared) (cpus : List (Cpu S)) (i : ℕ) (cpu : Cpu S) → AllCallable shared cpus → i < length cpus → cpu ≡ get_or cpus i cpu → IsCallable shared cpu
  there shared cpus i cpu all lt at = all i cpu (slice_get_read cpus (length cpus) i cpu refl lt at)

  pub all_returned : (does : S → ℕ → CallsMade → CallsMade → Type 0) (n : ℕ) (old new items : List (Cpu S)) → AllReturned does old new → old ≡ items → n ≡ length new
      → AllReturned does items (take n (new ++ drop (length new) items))
  all_returned does n old new items returned e size = grind (arith, nat_tests, take-append_seam)

module _ {S : Type 0} (has : Cpu S → List Deed → Type 0) (none : (cpu : Cpu S) → IsFresh has cpu → no_calls ≡ called cpu) where
  -- on CPUs of which nothing was asked before, the work did what it says that it does from no calls on
  pub worked : (does : S → ℕ → CallsMade → CallsMade → Type 0) (schema : S) (session back : Session S) → IsSession schema session
      → ((c : ℕ) (cpu : Cpu S) → slice_get session.cpus.items c ≡ Some cpu → IsFresh has cpu) → AllReturned does session.cpus.items back.cpus.items
      → (c : ℕ) (cpu : Cpu S) → slice_get back.cpus.items c ≡ Some cpu → does schema c no_calls (called cpu)
  worked does schema session back is fresh returned c cpu at = grind (arith, nat_tests, there)
