-- Cited by calls. A buffer of texts without padding as contracts see it, and the pieces that it has.
use Rattle.std.specs.{List.flat_map, Prelude.◌≡◌, Prelude.◌≤◌, Prelude.ℕ, Prelude.Bool, Prelude.IsTrue, Prelude.All, Prelude.List, Prelude.length, Prelude.drop, Prelude.reverse, Prelude.Option}
use Rattle.dspec_buffer.specs.{Extent.Piece, Extent.records, Extent.extent, Words.Outside.Record, Words.Outside.Shape}

-- the texts of its records one after another, how many there are, how far they would reach, and its size in bytes
pub record ListView : Type 0 where
  pub texts : List ℕ
  pub count : ℕ
  pub offset : ℕ
  pub size : ℕ

-- the texts are those of the records of these pieces, all accepted, the count is their number and the offset their extent
pub record HasListed (shape : ℕ → Option Shape) (accepted : Record → Bool) (text : Record → List ℕ) (b : ListView) (ps : List Piece) : Type 0 where
  pub all_accepted : All (λ r. IsTrue (accepted r)) (records ps)
  pub texts_are : b.texts ≡ flat_map text (reverse (records ps))
  pub count_is : b.count ≡ length (records ps)
  pub offset_is : b.offset ≡ extent shape ps

-- from this place on the texts are those of these records, all accepted
pub record HasTexts (accepted : Record → Bool) (text : Record → List ℕ) (texts : List ℕ) (place : ℕ) (rs : List Record) : Type 0 where
  pub within : place ≤ length texts
  pub all_accepted : All (λ r. IsTrue (accepted r)) rs
  pub texts_are : drop place texts ≡ flat_map text rs
