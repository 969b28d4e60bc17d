-- What a visit of the demonstration's consumer came to.
use Rattle.std.proofs.Common.{ℕ, ◌<◌, ◌≤◌, inl, inr, Bool, true, false, Result, Ok, Err, OnErr, OnOk, MatchBool, arith}
use Rattle.dspec_session.specs.Words.{Batch, GaveBack, IsNotTakenBack, Consuming, IsBackOrRefused}

-- a CPU that is there was asked
pub asked_there : (A B : Type 0) (asks : Bool) (n c : ℕ) → MatchBool asks ((c < n) × A) ((n ≤ c) × B) → c < n → A
asked_there A B true n c m lt = m.1
asked_there A B false n c m lt = let no = m.0 in absurd (omega arith)

-- a batch went back, or came back
pub back_or_refused : {T : Type 0} (r : Result T Batch) (b : Batch) (x y : Consuming) → OnOk r (GaveBack b x y) → OnErr r (IsNotTakenBack b x y) → IsBackOrRefused b x y
back_or_refused (Ok t) b x y given why = inl given
back_or_refused (Err back) b x y given why = inr why
