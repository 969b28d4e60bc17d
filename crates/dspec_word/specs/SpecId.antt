-- Believed. What an identifier names, and its number.
use Rattle.std.specs.Prelude.{ℕ, ◌+◌, ◌*◌}

-- a slot, and how often it was released before
pub record Speculation : Type 0 where
  pub issue : ℕ
  pub slot : ℕ

abbrev pub id_number : Speculation → ℕ
id_number id = id.issue * 64 + id.slot

-- what number 0 names; slots are numbered from 1, so it is never open
abbrev pub no_speculation : Speculation
no_speculation = record { issue = 0; slot = 0 }
