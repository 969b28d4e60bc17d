-- A session before any call.
use Rattle.std.proofs.Common.{◌≡◌, ℕ, ◌≤◌, ap, ◌∙◌, arith, Result, Ok, Err, IfOk, Some}
use Rattle.std.specs.Prelude.{slice_get}
use Rattle.dspec_session.specs.Words.{EnabledRows, set_up, words_of, Has, IsFresh, HaveRoom, IsDemonstrated, Config, StartFault, Cpu, Session}

-- no call was made of its CPUs
pub has_room : (r : Result (Session EnabledRows) StartFault) (k : Config) → 400 ≤ k.max_calls → IfOk r (λ s. set_up (words_of s.shared) ≡ k) → IfOk r (λ s. IsDemonstrated s)
    → IfOk r (λ s. (c : ℕ) (cpu : Cpu EnabledRows) → slice_get s.cpus.items c ≡ Some cpu → IsFresh Has cpu) → IfOk r (λ s. HaveRoom s.cpus.items)
has_room (Ok s) k enough config is fresh = λ c cpu at.
    let none : cpu.side.calls ≡ 0 = (fresh c cpu at).list.shown.side.called in
    let most = ap (λ (x : Config). x.max_calls) ((is.each c cpu at).belongs.config ∙ config) in
    omega arith
has_room (Err fault) k enough config is fresh = tt
