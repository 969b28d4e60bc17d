-- Cited by calls. How far a text was written.
use Rattle.std.specs.{Io.KnownBytes.Appends, Prelude.◌≡◌, Prelude.ℕ, Prelude.◌++◌, Prelude.List, Prelude.Option}

-- known bytes stay at the front and grow by what stands before the rest of the text
abbrev pub AppendsBefore : Option (List ℕ) → Option (List ℕ) → List ℕ → List ℕ → Type 0
AppendsBefore old new text rest = (front : List ℕ) × (text ≡ front ++ rest) × Appends old new front

-- known bytes stay at the front and grow by a beginning of the text
abbrev pub AppendsBeginning : Option (List ℕ) → Option (List ℕ) → List ℕ → Type 0
AppendsBeginning old new text = (rest : List ℕ) × AppendsBefore old new text rest
