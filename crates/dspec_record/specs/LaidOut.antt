-- Cited by calls. A record whose fields are known when a program is compiled says itself what its shape and its bytes are.
use Rattle.std.specs.Prelude.{◌≡◌, ℕ, List, Option, Some, IfSome}
use Rattle.dspec_record.specs.{Record.Record, declared.field.Shape.Shape}

pub record Laid : Type 0 where
  pub shape : Shape
  pub text : List ℕ

-- a schema's shape for its EPID, and a schema's text for it, are what it says itself
pub record IsSaid (shape : ℕ → Option Shape) (text : Record → List ℕ) (r : Record) (laid : Laid) : Type 0 where
  pub same_shape : shape r.epid ≡ Some laid.shape
  pub same_text : text r ≡ laid.text

-- so it is, if the record says anything
abbrev pub IsLaidBy : (ℕ → Option Shape) → (Record → List ℕ) → Record → Option Laid → Type 0
IsLaidBy shape text r laid = IfSome laid (IsSaid shape text r)
