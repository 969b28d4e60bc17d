-- Serves proofs. A walk that begins has the texts of all records of the pieces before it.
use Rattle.std.specs.Prelude.{ℕ, Bool, IsTrue, List, reverse, Option}
use Rattle.std.proofs.{Common.arith, lemmas.List.Sorted.All-permutation, lemmas.List.Sorted.IsPermutation-reverse}
use Rattle.dspec_buffer.specs.{Extent.Piece, Extent.records, Listed.ListView, Listed.HasListed, Listed.HasTexts, Words.Outside.Record, Words.Outside.Shape}

pub has_texts : (shape : ℕ → Option Shape) (accepted : Record → Bool) (text : Record → List ℕ) (b : ListView) (ps : List Piece) → HasListed shape accepted text b ps
    → HasTexts accepted text b.texts 0 (reverse (records ps))
has_texts shape accepted text b ps h = record {
  within = omega arith;
  all_accepted = All-permutation (λ r. IsTrue (accepted r)) (records ps) (reverse (records ps)) (IsPermutation-reverse (records ps)) h.all_accepted;
  texts_are = h.texts_are;
}
