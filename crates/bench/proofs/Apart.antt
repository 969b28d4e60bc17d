-- Each CPU of a session can be lent to a thread.
use Rattle.std.proofs.{Common.◌≡◌, Common.ℕ, Common.◌<◌, Common.List, Common.length, Common.refl, Common.get_or, lemmas.Option.slice_get_read}
use Rattle.bench.specs.Words.{Cpu, Shared, IsCallable, IsSession, AllCallable, Session}

module _ {S : Type 0} where
  pub of_session : (schema : S) (session : Session S) → IsSession schema session → AllCallable session.shared session.cpus.items
  of_session schema session is c cpu at = (is.each c cpu at).belongs

  pub at_its_place : (shared : Shared) (cpus : List (Cpu S)) (i : ℕ) (cpu : Cpu S) → AllCallable shared cpus → i < length cpus → cpu ≡ get_or cpus i cpu → IsCallable shared cpu
  at_its_place shared cpus i cpu all lt at = all i cpu (slice_get_read cpus (length cpus) i cpu refl lt at)
