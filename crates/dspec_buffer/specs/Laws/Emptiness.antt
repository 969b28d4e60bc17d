-- Serves proofs. An empty block in front makes no bytes.
use Rattle.std.specs.Prelude.{ℕ, Bool, List, [], ◌∷◌, Option}
use Rattle.std.proofs.{Common.sym, Common.◌∙◌, lemmas.List.append-nil}
use Rattle.dspec_buffer.specs.{Extent.Piece, Extent.block, Extent.bytes, Listed.ListView, Listed.HasListed, Stored.Stored, Stored.HasPieces, Words.Outside.Record, Words.Outside.Shape}

pub stored_too : (shape : ℕ → Option Shape) (accepted : Record → Bool) (text : Record → List ℕ) (b : Stored) (ps : List Piece) → HasPieces shape accepted text b ps
    → HasPieces shape accepted text b (block [] ∷ ps)
stored_too shape accepted text b ps h = record {
  all_accepted = h.all_accepted;
  text_is = h.text_is ∙ sym (append-nil (bytes shape text ps));
  count_is = h.count_is;
}

pub listed_too : (shape : ℕ → Option Shape) (accepted : Record → Bool) (text : Record → List ℕ) (b : ListView) (ps : List Piece) → HasListed shape accepted text b ps
    → HasListed shape accepted text b (block [] ∷ ps)
listed_too shape accepted text b ps h = record {
  all_accepted = h.all_accepted;
  texts_are = h.texts_are;
  count_is = h.count_is;
  offset_is = h.offset_is;
}
