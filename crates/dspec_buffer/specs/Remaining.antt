-- Cited by calls. What a reader of a checked text still has before it.
use Rattle.std.specs.Prelude.{◌≡◌, ℕ, Bool, List, Option}
use Rattle.dspec_buffer.specs.{Stored.HasAhead, Walking.StepsAhead, Words.Outside.Record, Words.Outside.Shape}

module _ (shape : ℕ → Option Shape) (accepted : Record → Bool) (text : Record → List ℕ) where
  -- the bytes from this place on are the text of these records and of no others
  abbrev pub IsOneText : List ℕ → ℕ → List Record → Type 0
  IsOneText bytes place rs =
      ∥ HasAhead shape accepted text bytes place rs ∥₁ × ((qs : List Record) → HasAhead shape accepted text bytes place qs → qs ≡ rs)

  -- of each list of records that the bytes from this place on are the text of, this is the first, with the place after it; None at its end
  abbrev pub StepsOn : List ℕ → ℕ → Option (Record × ℕ) → Type 0
  StepsOn bytes place step = (rs : List Record) → HasAhead shape accepted text bytes place rs → StepsAhead (HasAhead shape accepted text bytes) rs step

  -- there is a list of records that the bytes from this place on are the text of
  abbrev pub Remaining : List ℕ → ℕ → Type 0
  Remaining bytes place = (rs : List Record) × IsOneText bytes place rs
