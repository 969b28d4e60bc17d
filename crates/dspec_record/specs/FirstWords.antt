-- Serves proofs. Words whose first holds more than fields: the EPID or half of a stamp, in the place of the zeros before the fields.
use Rattle.std.specs.Prelude.{ℕ, ◌+◌, List, [], ◌∷◌}

abbrev pub with_low : ℕ → List ℕ → List ℕ
with_low low [] = []
with_low low (w ∷ ws) = (w + low) ∷ ws
