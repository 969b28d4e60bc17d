-- Believed. A record as contracts see it.
use Rattle.std.specs.Prelude.{ℕ, List}

-- an enabled probe identifier, a stamp, and the values of its fields, in their order
pub record Record : Type 0 where
  pub epid : ℕ
  pub stamp : ℕ
  pub values : List ℕ
