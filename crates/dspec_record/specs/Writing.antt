-- Serves proofs. Writing a value with the zeros after it: no gap between two fields needs a write of its own.
use Rattle.std.specs.Prelude.{◌≡◌, ◌<◌, ◌≤◌, ℕ, List, slice_index_or}
use Rattle.dspec_record.specs.Layout.{rounded_up}

-- zeros stand from `end` up to the next multiple of eight, as far as there are bytes
abbrev pub IsClearAfter : ℕ → List ℕ → Type 0
IsClearAfter end bytes = (k : ℕ) → end ≤ k → k < rounded_up end 8 → slice_index_or bytes k 0 ≡ 0
