-- Believed. The pieces of a buffer, how far they reach, whether one more fits, and the bytes that they make.
-- A list of pieces has the latest piece at its head, and so has the list of records in a block.
use Rattle.std.specs.Option.{option_map_or}
use Rattle.std.specs.Prelude.{ℕ, ◌%◌, ◌==◌, nat_le, Bool, List, [], ◌∷◌, ◌++◌, Option, if◌then◌else◌}
use Rattle.dspec_buffer.specs.Words.Outside.{Record, after, Shape}

-- what is reserved at one go: a record, or the whole text of a buffer that has these records
pub data Piece : Type 0 where
  one : Record → Piece
  block : List Record → Piece

abbrev pub records_of : Piece → List Record
records_of (one r) = r ∷ []
records_of (block rs) = rs

-- the records of all pieces, the latest first
abbrev pub records : List Piece → List Record
records [] = []
records (p ∷ ps) = records_of p ++ records ps

-- how far a buffer reaches once `n` bytes at a multiple of `a` are reserved after `o`; no bytes reserve nothing
abbrev pub reserved : ℕ → ℕ → ℕ → ℕ
reserved o a n = if n == 0 then o else after o a n

-- by the shapes that EPIDs have
module _ (shape : ℕ → Option Shape) where
  abbrev pub size_of : Record → ℕ
  size_of r = option_map_or (λ h. h.size) (shape r.epid) 0

  abbrev pub align_of : Record → ℕ
  align_of r = option_map_or (λ h. h.align) (shape r.epid) 4

  abbrev pub extent_of_records : List Record → ℕ
  extent_of_records [] = 0
  extent_of_records (r ∷ rs) = reserved (extent_of_records rs) (align_of r) (size_of r)

  abbrev pub piece_size : Piece → ℕ
  piece_size (one r) = size_of r
  piece_size (block rs) = extent_of_records rs

  -- a block stands where each of its records may stand
  abbrev pub piece_align : Piece → ℕ
  piece_align (one r) = align_of r
  piece_align (block rs) = 8

  abbrev pub extent : List Piece → ℕ
  extent [] = 0
  extent (p ∷ ps) = reserved (extent ps) (piece_align p) (piece_size p)

  -- whether a piece fits after these into a buffer of so many bytes
  abbrev pub piece_fits : List Piece → Piece → ℕ → Bool
  piece_fits ps p size = nat_le (extent (p ∷ ps)) size

abbrev pub padding_word : List ℕ
padding_word = 0 ∷ 0 ∷ 0 ∷ 0 ∷ []

-- what stands between place `o` and the next multiple of `a`
abbrev pub padding : ℕ → ℕ → List ℕ
padding o a = if o % a == 0 then [] else padding_word

-- the bytes of a piece, after the padding word that place `o` needs for it
abbrev pub padded : ℕ → ℕ → List ℕ → List ℕ
padded o a [] = []
padded o a (b ∷ bytes) = padding o a ++ b ∷ bytes

-- by the texts of records, too
module _ (shape : ℕ → Option Shape) (text : Record → List ℕ) where
  abbrev pub bytes_of_records : List Record → List ℕ
  bytes_of_records [] = []
  bytes_of_records (r ∷ rs) = bytes_of_records rs ++ padded (extent_of_records shape rs) (align_of shape r) (text r)

  abbrev pub piece_bytes : Piece → List ℕ
  piece_bytes (one r) = text r
  piece_bytes (block rs) = bytes_of_records rs

  -- the bytes of a buffer that has these pieces
  abbrev pub bytes : List Piece → List ℕ
  bytes [] = []
  bytes (p ∷ ps) = bytes ps ++ padded (extent shape ps) (piece_align shape p) (piece_bytes p)
