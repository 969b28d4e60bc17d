-- The bytes of pieces are the text of their records.
use Rattle.std.proofs.Common.{◌≡◌, ◌+◌, ◌%◌, ℕ, Bool, Option, List, [], ◌∷◌, length, reverse, refl, sym, subst, arith}
use Rattle.std.proofs.lemmas.{Bool.Decides.nat_tests, List.reverse-append}
use Rattle.dspec_buffer.specs.Words.{Record, Piece, one, block, records, records_of, align_of, extent_of_records, extent, piece_align, piece_bytes, bytes_of_records, bytes, padding, padded}
use Rattle.dspec_buffer.specs.Words.{BufferText, Shape}
use Rattle.dspec_buffer.proofs.{Accepted.AllAccepted, Accepted.front_accepted, Accepted.back_accepted, Accepted.first_accepted, Accepted.others_accepted, Extents.records_extent}
use Rattle.dspec_buffer.proofs.{Extents.pieces_extent, Extents.piece_facts, Gluing.glued, Gluing.moved, Gluing.after_gap, Gluing.alone, Nexts.next_not_nil, Padding.IsPadding, Padding.padding_facts}
use Rattle.dspec_buffer.proofs.{SchemaLaws.SchemaLaws, Texts.text_facts}

module _ (shape : ℕ → Option Shape) (accepted : Record → Bool) (text : Record → List ℕ) (laws : SchemaLaws shape accepted text) where
  -- a text after the padding that its place needs
  padded_text : (o a : ℕ) (x : List ℕ) (rs : List Record) → IsPadding o a (padding o a) → BufferText shape accepted text (o + length (padding o a)) x rs
      → BufferText shape accepted text o (padded o a x) rs
  padded_text o a [] [] p h = refl
  padded_text o a (b ∷ x) [] p h = cc
  padded_text o a [] (r ∷ rs) p (g, (rest, (s, h))) =
      absurd (next_not_nil shape accepted text laws (o + length (padding o a)) g r rest s)
  padded_text o a (b ∷ x) (r ∷ rs) p h = after_gap shape accepted text laws o (padding o a) (b ∷ x) r rs p.is_gap h

  pub records_read : (rs : List Record) → AllAccepted accepted rs → BufferText shape accepted text 0 (bytes_of_records shape text rs) (reverse rs)
  records_read [] h = refl
  records_read (r ∷ rs) h =
      let k = first_accepted accepted r rs h in
      let t = text_facts shape accepted text laws r k in
      let others = others_accepted accepted r rs h in
      let i = records_extent shape accepted text laws rs others in
      let o = extent_of_records shape rs in
      let p = padding_facts o (align_of shape r) i.words t.aligned in
      let long : o ≡ 0 + length (bytes_of_records shape text rs) = let l = i.long in omega arith in
      let last : BufferText shape accepted text o (padded o (align_of shape r) (text r)) (r ∷ []) =
      padded_text o (align_of shape r) (text r) (r ∷ []) p (alone shape accepted text laws (o + length (padding o (align_of shape r))) r k p.aligned) in
      let whole = glued shape accepted text laws 0 (bytes_of_records shape text rs) (padded o (align_of shape r) (text r)) (reverse rs) (r ∷ []) (records_read rs others)
      (subst (λ m. BufferText shape accepted text m (padded o (align_of shape r) (text r)) (r ∷ [])) long last) in
      subst (λ qs. BufferText shape accepted text 0 (bytes_of_records shape text (r ∷ rs)) qs) (sym (reverse-append (r ∷ []) rs)) whole

  -- the bytes of a piece at a place that is aligned for it
  piece_read : (o : ℕ) (p : Piece) → AllAccepted accepted (records_of p) → o % piece_align shape p ≡ 0 → BufferText shape accepted text o (piece_bytes shape text p) (reverse (records_of p))
  piece_read o (one r) h m = alone shape accepted text laws o r (first_accepted accepted r [] h) m
  piece_read o (block rs) h m = grind (arith, nat_tests, moved, records_read)

  pub pieces_read : (ps : List Piece) → AllAccepted accepted (records ps) → BufferText shape accepted text 0 (bytes shape text ps) (reverse (records ps))
  pieces_read [] h = refl
  pieces_read (p ∷ ps) h =
      let own = front_accepted accepted (records_of p) (records ps) h in
      let others = back_accepted accepted (records_of p) (records ps) h in
      let f = piece_facts shape accepted text laws p own in
      let i = pieces_extent shape accepted text laws ps others in
      let o = extent shape ps in
      let d = padding_facts o (piece_align shape p) i.words f.aligned in
      let long : o ≡ 0 + length (bytes shape text ps) = let l = i.long in omega arith in
      let last : BufferText shape accepted text o (padded o (piece_align shape p) (piece_bytes shape text p)) (reverse (records_of p)) =
      padded_text o (piece_align shape p) (piece_bytes shape text p) (reverse (records_of p)) d (piece_read (o + length (padding o (piece_align shape p))) p own d.aligned) in
      let whole = glued shape accepted text laws 0 (bytes shape text ps) (padded o (piece_align shape p) (piece_bytes shape text p)) (reverse (records ps))
      (reverse (records_of p)) (pieces_read ps others)
      (subst (λ m. BufferText shape accepted text m (padded o (piece_align shape p) (piece_bytes shape text p)) (reverse (records_of p))) long last) in
      subst (λ qs. BufferText shape accepted text 0 (bytes shape text (p ∷ ps)) qs) (sym (reverse-append (records_of p) (records ps))) whole
