-- A `ListBuffer` that gets a piece more.
use Rattle.std.proofs.Common.{◌≡◌, ◌+◌, ◌++◌, ℕ, Bool, IsTrue, Option, List, [], ◌∷◌, length, map, reverse, sym, ap, ◌∙◌, arith, length-append}
use Rattle.std.proofs.lemmas.{Bool.Decides.nat_tests, Grind.flat_map-append, List.reverse-append, List.nil_from_length, List.append-nil, List.Elements.All-append, List.Elements.All-cons}
use Rattle.std.proofs.lemmas.{List.Elements.All-nil}
use Rattle.std.specs.List.{flat_map}
use Rattle.dspec_buffer.specs.Words.{Record, Piece, one, block, records, records_of, extent, extent_of_records, ListView, HasListed, Shape}
use Rattle.dspec_buffer.proofs.{Accepted.AllAccepted, Keeping.records-alone, Keeping.extent-alone, Padding.reserved_none}

module _ (shape : ℕ → Option Shape) (accepted : Record → Bool) (text : Record → List ℕ) where
  -- what a piece more makes of a buffer
  pub record Grows (b b' : ListView) (p : Piece) (ps : List Piece) : Type 0 where
    pub all_accepted : AllAccepted accepted (records_of p)
    pub texts_are : b'.texts ≡ b.texts ++ flat_map text (reverse (records_of p))
    pub count_is : b'.count ≡ b.count + length (records_of p)
    pub offset_is : b'.offset ≡ extent shape (p ∷ ps)

  pub listed : (b b' : ListView) (p : Piece) (ps : List Piece) → HasListed shape accepted text b ps → Grows b b' p ps → HasListed shape accepted text b' (p ∷ ps)
  listed b b' p ps h k =
      let after : flat_map text (reverse (records ps) ++ reverse (records_of p)) ≡ flat_map text (reverse (records ps)) ++ flat_map text (reverse (records_of p)) =
      flat_map-append text (reverse (records ps)) (reverse (records_of p)) in
      let more = k.count_is in
      let count = h.count_is in
      let both = length-append (records_of p) (records ps) in
      record {
        all_accepted = All-append (λ r. IsTrue (accepted r)) (records_of p) (records ps) k.all_accepted h.all_accepted;
        texts_are = k.texts_are ∙ ap (λ z. z ++ flat_map text (reverse (records_of p))) h.texts_are ∙ sym after ∙ ap (flat_map text) (sym (reverse-append (records_of p) (records ps)));
        count_is = omega arith;
        offset_is = k.offset_is;
      }

  pub one_accepted : (r : Record) → IsTrue (accepted r) → AllAccepted accepted (records_of (one r))
  one_accepted r h = All-cons (λ q. IsTrue (accepted q)) r [] h (All-nil (λ q. IsTrue (accepted q)))

  pub one_text : (r : Record) → flat_map text (reverse (records_of (one r))) ≡ text r
  one_text r = append-nil (text r)

  -- a buffer that has records alone, as a block
  pub record IsListedBlock (b : ListView) (rs : List Record) : Type 0 where
    pub all_accepted : AllAccepted accepted rs
    pub texts_are : b.texts ≡ flat_map text (reverse rs)
    pub count_is : b.count ≡ length rs
    pub size_is : extent_of_records shape rs ≡ b.offset

  pub listed_block : (b : ListView) (rs : List Record) → HasListed shape accepted text b (map one rs) → IsListedBlock b rs
  listed_block b rs h = grind (arith, nat_tests, AllAccepted, records-alone, extent-alone)

  -- an empty block leaves a buffer as it is
  pub listed_empty : (b other : ListView) (ps : List Piece) (rs : List Record) → HasListed shape accepted text b ps → HasListed shape accepted text other (map one rs)
      → other.offset ≡ 0 → other.count ≡ 0 → HasListed shape accepted text b (block rs ∷ ps)
  listed_empty b other ps rs h k e l =
      let f = listed_block other rs k in
      let nil : rs ≡ [] = nil_from_length rs (sym f.count_is ∙ l) in
      let none : length rs ≡ 0 = ap length nil in
      listed b b (block rs) ps h (record {
        all_accepted = f.all_accepted;
        texts_are = sym (append-nil b.texts) ∙ ap (λ z. b.texts ++ flat_map text (reverse z)) (sym nil);
        count_is = omega arith;
        offset_is = h.offset_is ∙ sym (reserved_none (extent shape ps) 8 (extent_of_records shape rs) (f.size_is ∙ e));
      })
