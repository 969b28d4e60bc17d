-- Cited by calls. A ring of bytes: those that it has, the oldest first, and how many it can have.
use Rattle.std.specs.Prelude.{ℕ, List}

pub record RingBytes : Type 0 where
  pub items : List ℕ
  pub capacity : ℕ

abbrev pub ring_bytes : List ℕ → ℕ → RingBytes
ring_bytes items capacity = record { items = items; capacity = capacity }
