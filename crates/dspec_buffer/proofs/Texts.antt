-- What the texts of accepted records are like, whatever the schema.
use Rattle.std.proofs.Common.{◌≡◌, ◌≢◌, ◌%◌, ◌≤◌, ◌⊎◌, ◌++◌, ℕ, List, [], ◌∷◌, length, take, Bool, IsTrue, Option, Some, None, refl, sym, ap, ◌∙◌, arith}
use Rattle.std.proofs.lemmas.Nat.{from_le_bytes-to_le_bytes_4}
use Rattle.dspec_buffer.specs.Words.{Record, front_epid, size_of, align_of, padding_word, Shape}
use Rattle.dspec_buffer.proofs.SchemaLaws.{SchemaLaws}

-- four bytes or more have four at their front
pub record FrontFour (xs : List ℕ) : Type 0 where
  pub a : ℕ
  pub b : ℕ
  pub c : ℕ
  pub d : ℕ
  pub left : List ℕ
  pub is : xs ≡ a ∷ b ∷ c ∷ d ∷ left

pub front_four : (xs : List ℕ) → 4 ≤ length xs → FrontFour xs
front_four [] h = absurd (omega arith)
front_four (a ∷ []) h = absurd (omega arith)
front_four (a ∷ b ∷ []) h = absurd (omega arith)
front_four (a ∷ b ∷ c ∷ []) h = absurd (omega arith)
front_four (a ∷ b ∷ c ∷ d ∷ left) h = record { a = a; b = b; c = c; d = d; left = left; is = refl }

-- the EPID at the front is that of the first four bytes
pub front_epid-take : (xs ys : List ℕ) → 4 ≤ length xs → front_epid (xs ++ ys) ≡ front_epid (take 4 xs)
front_epid-take xs ys h = let f = front_four xs h in rw f.is refl

pub front_epid-padding : (ys : List ℕ) → front_epid (padding_word ++ ys) ≡ 0
front_epid-padding ys = refl

module _ (shape : ℕ → Option Shape) (accepted : Record → Bool) (text : Record → List ℕ) (laws : SchemaLaws shape accepted text) where
  -- what is known of the text of an accepted record
  pub record TextFacts (r : Record) : Type 0 where
    pub size : length (text r) ≡ size_of shape r
    pub words : length (text r) % 4 ≡ 0
    pub least : 4 ≤ length (text r)
    pub most : length (text r) ≤ 128
    pub aligned : (align_of shape r ≡ 4) ⊎ (align_of shape r ≡ 8)
    pub named : r.epid ≢ 0
    pub shape_is : Shape
    pub has_shape : shape r.epid ≡ Some shape_is
    pub shape_size : shape_is.size ≡ length (text r)
    pub shape_align : shape_is.align ≡ align_of shape r
    pub epid : (ys : List ℕ) → front_epid (text r ++ ys) ≡ r.epid

  pub text_facts : (r : Record) → IsTrue (accepted r) → TextFacts r
  text_facts r h =
      let t = laws.texts_fit r h in
      let s = laws.shapes_fit r.epid t.shape_is t.has_shape in
      let size : size_of shape r ≡ t.shape_is.size = rw t.has_shape refl in
      let align : align_of shape r ≡ t.shape_is.align = rw t.has_shape refl in
      let long : 4 ≤ length (text r) = rw t.size s.with_epid in
      record {
        size = t.size ∙ sym size;
        words = rw t.size s.whole_words;
        least = long;
        most = rw t.size s.bounded;
        aligned = rw align s.aligned;
        named = λ e. let z : shape r.epid ≡ None = rw e laws.zero_has_none in cc (z, t.has_shape);
        shape_is = t.shape_is;
        has_shape = t.has_shape;
        shape_size = sym t.size;
        shape_align = sym align;
        epid = λ ys. front_epid-take (text r) ys long ∙ ap front_epid t.epid ∙ from_le_bytes-to_le_bytes_4 r.epid t.epid_fits;
      }
