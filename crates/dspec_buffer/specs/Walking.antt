-- Cited by calls. A walk over the records of a buffer.
use Rattle.std.specs.Prelude.{◌≡◌, ◌⊎◌, ℕ, List, [], ◌∷◌, reverse, Option, Some, None}
use Rattle.dspec_buffer.specs.{Extent.Piece, Extent.records, Words.Outside.Record}

-- one step of a walk that still has these records before it: the first one and a place from which the others
-- are still to come, or the end. `has_ahead` says what a walk has before it at a place.
abbrev pub StepsAhead : (ℕ → List Record → Type 0) → List Record → Option (Record × ℕ) → Type 0
StepsAhead has_ahead [] step = step ≡ None
StepsAhead has_ahead (r ∷ rs) step = (place : ℕ) × ((step ≡ Some (r, place)) × has_ahead place rs)

-- a walk begins at place 0, with all records of the pieces before it, and is elsewhere where steps have led it
abbrev pub IsAhead : (List Piece → Type 0) → (ℕ → List Record → Type 0) → ℕ → List Record → Type 0
IsAhead has led place rs =
    ((ps : List Piece) × (has ps × (place ≡ 0) × (rs ≡ reverse (records ps)))) ⊎ led place rs
