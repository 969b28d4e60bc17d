-- Believed. A buffer of bytes as contracts see it, and the pieces that it has.
use Rattle.std.specs.Prelude.{◌≡◌, ◌≤◌, ℕ, Bool, IsTrue, All, List, length, drop, reverse, Option}
use Rattle.dspec_buffer.specs.{BufferText.BufferText, Extent.Piece, Extent.records, Extent.bytes, Words.Outside.Record, Words.Outside.Shape}

-- its text up to the offset, the number of records in it, and its size in bytes
pub record Stored : Type 0 where
  pub text : List ℕ
  pub count : ℕ
  pub size : ℕ

-- the text is that of these pieces, of accepted records, and the count is their number
pub record HasPieces (shape : ℕ → Option Shape) (accepted : Record → Bool) (text : Record → List ℕ) (b : Stored) (ps : List Piece) : Type 0 where
  pub all_accepted : All (λ r. IsTrue (accepted r)) (records ps)
  pub text_is : b.text ≡ bytes shape text ps
  pub count_is : b.count ≡ length (records ps)

-- from this place on the text is that of these records
pub record HasAhead (shape : ℕ → Option Shape) (accepted : Record → Bool) (text : Record → List ℕ) (bytes : List ℕ) (place : ℕ) (rs : List Record) : Type 0 where
  pub within : place ≤ length bytes
  pub ahead : BufferText shape accepted text place (drop place bytes) rs

module _ (shape : ℕ → Option Shape) (accepted : Record → Bool) (text : Record → List ℕ) where
  -- the records of the pieces are accepted, the bytes are those of the pieces, and the count is the number of their records
  abbrev pub BytesSay : Stored → List Piece → Type 0
  BytesSay b ps = All (λ r. IsTrue (accepted r)) (records ps) × (b.text ≡ bytes shape text ps) × (b.count ≡ length (records ps))

  -- the bytes are the text of the pieces' records, in the order in which these came
  abbrev pub ReadsAs : Stored → List Piece → Type 0
  ReadsAs b ps = BufferText shape accepted text 0 b.text (reverse (records ps))
