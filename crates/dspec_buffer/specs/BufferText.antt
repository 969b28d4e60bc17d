-- Believed. Which records some bytes are the text of. Nothing here knows how the bytes came about.
use Rattle.std.specs.Prelude.{◌≡◌, ℕ, ◌+◌, ◌%◌, ◌⊎◌, Bool, IsTrue, List, [], ◌∷◌, ◌++◌, length, Option}
use Rattle.dspec_buffer.specs.{Extent.align_of, Extent.padding_word, Words.Outside.Record, Words.Outside.Shape}

-- between a record that ends at place `o` and the next one there is nothing, or the padding word up to a multiple of eight
abbrev pub IsGap : ℕ → List ℕ → Type 0
IsGap o gap = (gap ≡ []) ⊎ ((gap ≡ padding_word) × (o % 8 ≡ 4))

module _ (shape : ℕ → Option Shape) (accepted : Record → Bool) (text : Record → List ℕ) where
  -- from place `o` on the bytes are a gap, the text of this record at a multiple of its alignment, and `rest`
  pub record StandsNext (o : ℕ) (bytes gap : List ℕ) (r : Record) (rest : List ℕ) : Type 0 where
    pub is_accepted : IsTrue (accepted r)
    pub is_gap : IsGap o gap
    pub aligned : (o + length gap) % align_of shape r ≡ 0
    pub bytes_are : bytes ≡ gap ++ (text r ++ rest)

  -- the bytes from place `o` on are the text of these records, in their order
  abbrev pub BufferText : ℕ → List ℕ → List Record → Type 0
  BufferText o bytes [] = bytes ≡ []
  BufferText o bytes (r ∷ rs) =
      (gap : List ℕ) × ((rest : List ℕ) × (StandsNext o bytes gap r rest × BufferText (o + length gap + length (text r)) rest rs))

  -- bytes are the text of one list of records at most, wherever they stand
  abbrev pub HasOneReading : Type 0
  HasOneReading = (o : ℕ) (bytes : List ℕ) (rs qs : List Record) → BufferText o bytes rs → BufferText o bytes qs → rs ≡ qs
