-- What is promised of every state of a play holds where the state is coherent.
use Rattle.std.proofs.Common.{◌≡◌, ℕ, Bool, List, Option, sym, subst}
use Rattle.std.specs.Prelude.{Result, Ok, Err, IfOk, OnErr}
use Rattle.dspec_core.specs.{Words.Shape, Words.Piece, Words.Record, Words.WorldInvariant, Words.state_of, Words.HasHeadline, declared.machine.Machine.Machine}
use Rattle.dspec_deeds.proofs.Headlines.{headline}

-- the session of a machine that is kept has the headline
pub promise_kept : {S B : Type 0} {has : B → S → List Piece → Type 0} {capacity : B → ℕ} {shape_of : S → ℕ → Option Shape} {accepted : S → Record → Bool} {m : Machine S B}
    → WorldInvariant has capacity shape_of accepted m → HasHeadline (shape_of m.schema) (state_of m)
promise_kept {shape_of = shape_of} {m = m} was = record { coherent = was.coherent; headline = λ c. headline (shape_of m.schema) m.config c (state_of m).deeds was.coherent.legal }

-- so it has after a step that keeps the machine, or is refused and leaves it
pub promise_after : {T E S B : Type 0} {has : B → S → List Piece → Type 0} {capacity : B → ℕ} {shape_of : S → ℕ → Option Shape} {accepted : S → Record → Bool}
    {m : Machine S B} (n : Machine S B) (r : Result T E)
    → WorldInvariant has capacity shape_of accepted m → IfOk r (λ _. WorldInvariant has capacity shape_of accepted n) → OnErr r (n ≡ m) → HasHeadline (shape_of n.schema) (state_of n)
promise_after n (Ok x) was kept left = promise_kept kept
promise_after {has = has} {capacity = capacity} {shape_of = shape_of} {accepted = accepted} n (Err x) was kept left =
    promise_kept (subst (WorldInvariant has capacity shape_of accepted) (sym left) was)
