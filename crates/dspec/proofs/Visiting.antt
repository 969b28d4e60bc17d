-- What a visit of the consumer came to.
use Rattle.std.proofs.Common.{ℕ, ◌<◌, ◌≤◌, ◌⊎◌, inl, inr, Bool, true, false, Result, Ok, Err, OnErr, OnOk, MatchBool, arith}
use Rattle.dspec.specs.Words.{Batch, GaveBack, IsNotTakenBack, Consuming}

-- a CPU that is there was asked
pub was_asked : (A B : Type 0) (asks : Bool) (n c : ℕ) → MatchBool asks ((c < n) × A) ((n ≤ c) × B) → c < n → A
was_asked A B true n c m lt = m.1
was_asked A B false n c m lt = let no = m.0 in absurd (omega arith)

-- a batch went back, or that was refused
pub went_back : {T : Type 0} (r : Result T Batch) (b : Batch) (x y : Consuming) → OnOk r (GaveBack b x y) → OnErr r (IsNotTakenBack b x y)
    → GaveBack b x y ⊎ IsNotTakenBack b x y
went_back (Ok t) b x y given why = inl given
went_back (Err back) b x y given why = inr why
