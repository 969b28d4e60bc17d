-- A worker that was started, and what it gave back.
use Rattle.std.proofs.Common.{rules, ◌≡◌, Bool, subst}
use Rattle.std.specs.Prelude.{Option, Some, None, IfSome, IsSome}
use Rattle.dspec_session.specs.Words.{EnabledRows, CameBack, Cpu}

-- what a worker's promise is about is what it was started with
pub is_back : {H : Type 0} (worker : Option H) (taken : H → Cpu EnabledRows) (old new : Cpu EnabledRows) (finished : Bool) → IfSome worker (λ h. taken h ≡ old)
    → IsSome worker × IfSome worker (λ h. CameBack (taken h) new finished) → CameBack old new finished
is_back (Some h) taken old new finished t back = subst (λ (p : Cpu EnabledRows). CameBack p new finished) t back.1
is_back None taken old new finished t back = search rules
