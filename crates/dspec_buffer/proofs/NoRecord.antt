-- Where there is a fault, no record can be next.
use Rattle.std.proofs.Common.{◌≡◌, ◌≢◌, ◌+◌, ◌%◌, ◌≤◌, ◌<◌, ◌++◌, ℕ, Bool, IsTrue, Option, List, length, inl, inr, ap, ◌∙◌, arith, length-append}
use Rattle.std.proofs.lemmas.{Bool.Decides.nat_tests, List.append_cancel_left, List.take_at}
use Rattle.dspec_buffer.specs.Words.{Record, front_epid, NamesShape, align_of, padding_word, IsGap, StandsNext, FaultHere, Shape, ReadKind, Truncated, UnknownEpid, Misaligned, GapNotZero, Padding}
use Rattle.dspec_buffer.proofs.{Nexts.text_no_padding, SchemaLaws.SchemaLaws, Texts.text_facts, Texts.front_epid-padding}

module _ (shape : ℕ → Option Shape) (accepted : Record → Bool) (text : Record → List ℕ) (laws : SchemaLaws shape accepted text) where
  -- the text of this record stands at the front, at a place that is aligned for it
  record Begins (at : ℕ) (left : List ℕ) (q : Record) (x : List ℕ) : Type 0 where
    is_accepted : IsTrue (accepted q)
    aligned : at % align_of shape q ≡ 0
    bytes_are : left ≡ text q ++ x

  -- an EPID's shape is that of the record that begins with it
  same_shape : (at : ℕ) (left : List ℕ) (q : Record) (x : List ℕ) (h : Shape) → Begins at left q x → NamesShape shape left h → (h.size ≡ length (text q)) × (h.align ≡ align_of shape q)
  same_shape at left q x h s n = grind (arith, nat_tests, text_facts)

  begins_epid : (at : ℕ) (left : List ℕ) (q : Record) (x : List ℕ) → Begins at left q x → front_epid left ≢ 0
  begins_epid at left q x s = grind (arith, nat_tests, text_facts)

  begins_long : (at : ℕ) (left : List ℕ) (q : Record) (x : List ℕ) → Begins at left q x → (length left ≡ length (text q) + length x) × (4 ≤ length (text q))
  begins_long at left q x s =
      let t = text_facts shape accepted text laws q s.is_accepted in
      (ap length s.bytes_are ∙ length-append (text q) x, t.least)

  no_record : (k : ReadKind) (at : ℕ) (left : List ℕ) (q : Record) (x : List ℕ) → FaultHere shape accepted text k at left → Begins at left q x → ⊥
  no_record Truncated at left q x (inl f) s = grind (arith, nat_tests, begins_long)
  no_record Truncated at left q x (inr f) s =
      let l = begins_long at left q x s in
      let same = same_shape at left q x f.0 s f.1.0.0 in
      let short = f.1.1 in
      omega arith
  no_record Padding at left q x f s = begins_epid at left q x s f.1
  no_record UnknownEpid at left q x f s = grind (arith, nat_tests, text_facts)
  no_record Misaligned at left q x f s = grind (arith, nat_tests, same_shape)
  no_record GapNotZero at left q x f s = grind (arith, nat_tests, same_shape, take_at)

  -- a fault at a place where a padding word could stand isn't one with a padding word and something after it
  no_gap : (k : ReadKind) (at : ℕ) (left y : List ℕ) → FaultHere shape accepted text k at left → left ≡ padding_word ++ y → at % 8 ≡ 4 → 0 < length y → ⊥
  no_gap = grind (arith, nat_tests, front_epid-padding)

  -- where there is a fault there are bytes
  pub fault_long : (k : ReadKind) (at : ℕ) (left : List ℕ) → FaultHere shape accepted text k at left → 0 < length left
  fault_long = grind (arith, nat_tests)

  -- after a gap there is either a fault or a next record
  pub fault_excludes : (k : ReadKind) (o : ℕ) (b gap left g : List ℕ) (q : Record) (x : List ℕ) → IsGap o gap → b ≡ gap ++ left
      → FaultHere shape accepted text k (o + length gap) left → StandsNext shape accepted text o b g q x → ⊥
  fault_excludes k o b gap left g q x i e f s = grind (arith, nat_tests, text_facts, no_record, no_gap, text_no_padding, append_cancel_left)
