-- How far accepted records and pieces of them reach: whole words, at least a word for each record, and just as
-- many bytes as they make.
use Rattle.std.proofs.Common.{◌≡◌, ◌+◌, ◌*◌, ◌%◌, ◌≤◌, ◌⊎◌, ◌++◌, ℕ, Bool, Option, List, [], ◌∷◌, length, inr, refl, sym, ap, ◌∙◌, arith, length-append}
use Rattle.dspec_buffer.specs.Words.{Record, Piece, one, block, records, records_of, reserved, size_of, align_of, extent_of_records, extent, piece_size, piece_align, piece_bytes, bytes_of_records}
use Rattle.dspec_buffer.specs.Words.{bytes, padded, Shape}
use Rattle.dspec_buffer.proofs.{Accepted.AllAccepted, Accepted.front_accepted, Accepted.back_accepted, Accepted.first_accepted, Accepted.others_accepted, Padding.length-padded}
use Rattle.dspec_buffer.proofs.{Padding.reserved_facts, SchemaLaws.SchemaLaws, Texts.text_facts}

module _ (shape : ℕ → Option Shape) (accepted : Record → Bool) (text : Record → List ℕ) (laws : SchemaLaws shape accepted text) where
  -- n records reach to e, and make these bytes
  pub record IsExtent (n e : ℕ) (made : List ℕ) : Type 0 where
    pub words : e % 4 ≡ 0
    pub counted : 4 * n ≤ e
    pub long : length made ≡ e

  pub records_extent : (rs : List Record) → AllAccepted accepted rs → IsExtent (length rs) (extent_of_records shape rs) (bytes_of_records shape text rs)
  records_extent [] h = record { words = refl; counted = omega arith; long = refl }
  records_extent (r ∷ rs) h =
      let t = text_facts shape accepted text laws r (first_accepted accepted r rs h) in
      let i = records_extent rs (others_accepted accepted r rs h) in
      let size = t.size in
      let words : size_of shape r % 4 ≡ 0 = rw (sym size) t.words in
      let q = reserved_facts (extent_of_records shape rs) (align_of shape r) (size_of shape r) i.words t.aligned words in
      let l = length-padded (extent_of_records shape rs) (align_of shape r) (text r) i.words t.aligned in
      let takes = q.takes in
      let counted = i.counted in
      let least = t.least in
      record {
        words = q.words;
        counted = omega arith;
        long = length-append (bytes_of_records shape text rs) (padded (extent_of_records shape rs) (align_of shape r) (text r))
            ∙ ap (λ n. n + length (padded (extent_of_records shape rs) (align_of shape r) (text r))) i.long ∙ l ∙ ap (reserved (extent_of_records shape rs) (align_of shape r)) size;
      }

  -- what is reserved for a piece
  pub record IsPiece (p : Piece) : Type 0 where
    pub aligned : (piece_align shape p ≡ 4) ⊎ (piece_align shape p ≡ 8)
    pub words : piece_size shape p % 4 ≡ 0
    pub counted : 4 * length (records_of p) ≤ piece_size shape p
    pub long : length (piece_bytes shape text p) ≡ piece_size shape p

  pub piece_facts : (p : Piece) → AllAccepted accepted (records_of p) → IsPiece p
  piece_facts (one r) h =
      let t = text_facts shape accepted text laws r (first_accepted accepted r [] h) in
      let size = t.size in
      let least = t.least in
      record { aligned = t.aligned; words = rw (sym size) t.words; counted = omega arith; long = size }
  piece_facts (block rs) h =
      let i = records_extent rs h in
      record { aligned = inr refl; words = i.words; counted = i.counted; long = i.long }

  pub pieces_extent : (ps : List Piece) → AllAccepted accepted (records ps) → IsExtent (length (records ps)) (extent shape ps) (bytes shape text ps)
  pieces_extent [] h = record { words = refl; counted = omega arith; long = refl }
  pieces_extent (p ∷ ps) h =
      let f = piece_facts p (front_accepted accepted (records_of p) (records ps) h) in
      let i = pieces_extent ps (back_accepted accepted (records_of p) (records ps) h) in
      let q = reserved_facts (extent shape ps) (piece_align shape p) (piece_size shape p) i.words f.aligned f.words in
      let l = length-padded (extent shape ps) (piece_align shape p) (piece_bytes shape text p) i.words f.aligned in
      let n : length (records_of p ++ records ps) ≡ length (records_of p) + length (records ps) = length-append (records_of p) (records ps) in
      let takes = q.takes in
      let own = f.counted in
      let counted = i.counted in
      record {
        words = q.words;
        counted = rw n (omega arith);
        long = length-append (bytes shape text ps) (padded (extent shape ps) (piece_align shape p) (piece_bytes shape text p))
            ∙ ap (λ n. n + length (padded (extent shape ps) (piece_align shape p) (piece_bytes shape text p))) i.long ∙ l ∙ ap (reserved (extent shape ps) (piece_align shape p)) f.long;
      }
