-- A `ByteBuffer` that gets a piece more.
use Rattle.std.proofs.Common.{◌≡◌, ◌+◌, ◌*◌, ◌%◌, ◌≤◌, ◌++◌, ℕ, Bool, IsTrue, Option, Some, List, [], ◌∷◌, length, take, map, refl, sym, ap, subst, ◌∙◌, arith, length-append, nat_le}
use Rattle.std.proofs.lemmas.{Bool.Decides.nat_tests, List.length-take-le, List.nil_from_length, List.append-nil, List.Elements.All-append, List.Elements.All-cons, List.Elements.All-nil}
use Rattle.dspec_buffer.specs.Words.{Record, Piece, one, block, reserved, piece_fits, records, records_of, size_of, align_of, extent, extent_of_records, piece_align, piece_size, piece_bytes, padded}
use Rattle.dspec_buffer.specs.Words.{bytes, bytes_of_records, Stored, HasPieces, IsInside, stored_of, Shape}
use Rattle.dspec_buffer.specs.declared.byte_buffer.ByteBuffer.TheInside.{Inside}
use Rattle.dspec_buffer.proofs.{Accepted.AllAccepted, Extents.IsExtent, Extents.records_extent, Extents.pieces_extent, SchemaLaws.SchemaLaws}

-- records alone reach as far, and make the same bytes, whether they are pieces or a block
pub records-alone : (rs : List Record) → records (map one rs) ≡ rs
records-alone [] = refl
records-alone (r ∷ rs) = ap (λ z. r ∷ z) (records-alone rs)

pub extent-alone : (shape : ℕ → Option Shape) (rs : List Record) → extent shape (map one rs) ≡ extent_of_records shape rs
extent-alone shape [] = refl
extent-alone shape (r ∷ rs) = rw (extent-alone shape rs) refl

pub bytes-alone : (shape : ℕ → Option Shape) (text : Record → List ℕ) (rs : List Record) → bytes shape text (map one rs) ≡ bytes_of_records shape text rs
bytes-alone shape text [] = refl
bytes-alone shape text (r ∷ rs) = rw (bytes-alone shape text rs, extent-alone shape rs) refl

-- what the shape of a record's EPID says
pub shape_says : (shape : ℕ → Option Shape) (r : Record) (h : Shape) → shape r.epid ≡ Some h → (size_of shape r ≡ h.size) × (align_of shape r ≡ h.align)
shape_says shape r h e = (rw e refl, rw e refl)

module _ (shape : ℕ → Option Shape) (accepted : Record → Bool) (text : Record → List ℕ) (laws : SchemaLaws shape accepted text) where
  pub extent_of_pieces : (b : Stored) (ps : List Piece) → HasPieces shape accepted text b ps → IsExtent shape accepted text laws (length (records ps)) (extent shape ps) (bytes shape text ps)
  extent_of_pieces b ps h = pieces_extent shape accepted text laws ps h.all_accepted

  -- the offset is the extent
  pub offset_is : (b : Stored) (o : ℕ) (items : List ℕ) (ps : List Piece) → take o items ≡ b.text → o ≤ length items → HasPieces shape accepted text b ps → o ≡ extent shape ps
  offset_is b o items ps e l h =
      sym (length-take-le o items l) ∙ ap length (e ∙ h.text_is) ∙ (extent_of_pieces b ps h).long

  pub reaches : (a : Inside) (b : Stored) (ps : List Piece) → IsInside a → stored_of a ≡ b → HasPieces shape accepted text b ps → a.offset ≡ extent shape ps
  reaches a b ps is view h = offset_is b a.offset a.bytes.items ps (ap (λ v. v.text) view) (omega (arith, is.within, is.slack, a.bytes.ok.0)) h

  pub kept : (b b' : Stored) (p : Piece) (ps : List Piece) → HasPieces shape accepted text b ps → AllAccepted accepted (records_of p)
      → b'.text ≡ b.text ++ padded (extent shape ps) (piece_align shape p) (piece_bytes shape text p) → b'.count ≡ b.count + length (records_of p) → HasPieces shape accepted text b' (p ∷ ps)
  kept b b' p ps h own t n =
      let count = h.count_is in
      record {
        all_accepted = All-append (λ r. IsTrue (accepted r)) (records_of p) (records ps) own h.all_accepted;
        text_is = t ∙ ap (λ z. z ++ padded (extent shape ps) (piece_align shape p) (piece_bytes shape text p)) h.text_is;
        count_is = n ∙ (rw length-append (omega arith));
      }

  pub accepted_alone : (r : Record) → IsTrue (accepted r) → AllAccepted accepted (records_of (one r))
  accepted_alone r h = All-cons (λ q. IsTrue (accepted q)) r [] h (All-nil (λ q. IsTrue (accepted q)))

-- what is said of an offset, an alignment and a size is said of the piece
pub fits_says : (shape : ℕ → Option Shape) (p : Piece) (ps : List Piece) (o a n limit size : ℕ) (b : Bool) → o ≡ extent shape ps → piece_align shape p ≡ a
    → piece_size shape p ≡ n → limit ≡ size → b ≡ nat_le (reserved o a n) limit → b ≡ piece_fits shape ps p size
fits_says shape p ps o a n limit size b e d m l k = grind (arith, nat_tests)

module _ (shape : ℕ → Option Shape) (accepted : Record → Bool) (text : Record → List ℕ) (laws : SchemaLaws shape accepted text) where
  -- a buffer that has records alone, as a block
  pub record IsBlock (b : Stored) (rs : List Record) : Type 0 where
    pub all_accepted : AllAccepted accepted rs
    pub text_is : b.text ≡ bytes_of_records shape text rs
    pub count_is : b.count ≡ length rs
    pub counted : 4 * length rs ≤ extent_of_records shape rs
    pub words : extent_of_records shape rs % 4 ≡ 0

  pub block_of : (b : Stored) (rs : List Record) → HasPieces shape accepted text b (map one rs) → IsBlock b rs
  block_of b rs h =
      let accepted' : AllAccepted accepted rs = subst (λ z. AllAccepted accepted z) (records-alone rs) h.all_accepted in
      let e = records_extent shape accepted text laws rs accepted' in
      record {
        all_accepted = accepted';
        text_is = h.text_is ∙ bytes-alone shape text rs;
        count_is = h.count_is ∙ ap length (records-alone rs);
        counted = e.counted;
        words = e.words;
      }

  -- the offset of such a buffer is the block's size
  pub block_reaches : (a : Inside) (b : Stored) (rs : List Record) → IsInside a → stored_of a ≡ b → HasPieces shape accepted text b (map one rs) → extent_of_records shape rs ≡ a.offset
  block_reaches a b rs is view h = sym (extent-alone shape rs) ∙ sym (reaches shape accepted text laws a b (map one rs) is view h)

  -- an empty block leaves a buffer as it is
  pub kept_empty : (b other : Stored) (ps : List Piece) (rs : List Record) → HasPieces shape accepted text b ps → HasPieces shape accepted text other (map one rs)
      → extent_of_records shape rs ≡ 0 → HasPieces shape accepted text b (block rs ∷ ps)
  kept_empty b other ps rs h k e =
      let f = block_of other rs k in
      let counted = f.counted in
      let none : length rs ≡ 0 = omega arith in
      let nil : rs ≡ [] = nil_from_length rs none in
      let empty : bytes_of_records shape text rs ≡ [] = ap (bytes_of_records shape text) nil in
      kept shape accepted text laws b b (block rs) ps h f.all_accepted
      (sym (append-nil b.text) ∙ ap (λ z. b.text ++ padded (extent shape ps) 8 z) (sym empty))
      (omega arith)
