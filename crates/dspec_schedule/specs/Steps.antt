-- Cited by calls. Steps that may fail, one after the other.
use Rattle.std.specs.Prelude.{ℕ, List, [], ◌∷◌, Result, Ok, Err}

infixl 10 ◌>>=◌
-- the second step goes on with what the first gave; a fault of the first is the fault of both
abbrev pub ◌>>=◌ : {A B E : Type 0} → Result A E → (A → Result B E) → Result B E
Ok x >>= f = f x
Err e >>= f = Err e

-- a step for each element, from left to right
abbrev pub each : {A B E : Type 0} → (A → Result B E) → List A → Result (List B) E
each f [] = Ok []
each f (x ∷ xs) = do
  y ← f x
  ys ← each f xs
  Ok (y ∷ ys)

-- a fault, with the number of its line
abbrev pub at_line : {A E : Type 0} → ℕ → Result A E → Result A (ℕ × E)
at_line line (Ok x) = Ok x
at_line line (Err kind) = Err (line, kind)
