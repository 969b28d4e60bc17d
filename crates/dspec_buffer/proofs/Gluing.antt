-- Texts put together: one after another, one moved by a multiple of eight, one after a gap.
use Rattle.std.proofs.Common.{◌≡◌, ◌+◌, ◌%◌, ◌⊎◌, ◌++◌, ℕ, Bool, IsTrue, Option, List, [], ◌∷◌, length, inl, inr, ap, subst, ◌∙◌, arith, ⊎_elim, append_assoc}
use Rattle.std.proofs.lemmas.{Bool.Decides.nat_tests, List.append-nil}
use Rattle.dspec_buffer.specs.Words.{Record, align_of, IsGap, BufferText, Shape}
use Rattle.dspec_buffer.proofs.{Nexts.next_long, SchemaLaws.SchemaLaws, Texts.text_facts}

multiple : (o k g a : ℕ) → (a ≡ 4) ⊎ (a ≡ 8) → k % 8 ≡ 0 → (o + g) % a ≡ 0 → (k + o + g) % a ≡ 0
multiple = grind (arith, nat_tests)

moved_gap : (o k : ℕ) (g : List ℕ) → k % 8 ≡ 0 → IsGap o g → IsGap (k + o) g
moved_gap o k g h i = ⊎_elim inl (λ p. inr (p.0, let q : o % 8 ≡ 4 = p.1 in omega arith)) i

module _ (shape : ℕ → Option Shape) (accepted : Record → Bool) (text : Record → List ℕ) (laws : SchemaLaws shape accepted text) where
  -- one text after another
  pub glued : (o : ℕ) (x y : List ℕ) (rs qs : List Record) → BufferText shape accepted text o x rs → BufferText shape accepted text (o + length x) y qs
      → BufferText shape accepted text o (x ++ y) (rs ++ qs)
  glued o x y [] qs h k = grind (arith, nat_tests)
  glued o x y (r ∷ rs) qs (g, (rest, (s, h))) k =
      let e : x ++ y ≡ g ++ (text r ++ (rest ++ y)) =
      ap (λ z. z ++ y) s.bytes_are ∙ append_assoc g (text r ++ rest) y ∙ ap (λ z. g ++ z) (append_assoc (text r) rest y) in
      let l = next_long shape accepted text laws o x g r rest s in
      let n : o + length x ≡ o + length g + length (text r) + length rest = omega arith in (
        g,
        (
          rest ++ y,
          (
            record { is_accepted = s.is_accepted; is_gap = s.is_gap; aligned = s.aligned; bytes_are = e },
            glued (o + length g + length (text r)) rest y rs qs h
                (subst (λ m. BufferText shape accepted text m y qs) n k),
          ),
        ),
      )

  -- a text moved by a multiple of eight is the text of the same records
  pub moved : (k o : ℕ) (x : List ℕ) (rs : List Record) → k % 8 ≡ 0 → BufferText shape accepted text o x rs → BufferText shape accepted text (k + o) x rs
  moved k o x [] m h = h
  moved k o x (r ∷ rs) m (g, (rest, (s, h))) =
      let t = text_facts shape accepted text laws r s.is_accepted in
      let n : k + (o + length g + length (text r)) ≡ k + o + length g + length (text r) = omega arith in (
        g,
        (
          rest,
          (
            record {
              is_accepted = s.is_accepted;
              is_gap = moved_gap o k g m s.is_gap;
              aligned = multiple o k (length g) (align_of shape r) t.aligned m s.aligned;
              bytes_are = s.bytes_are;
            },
            subst (λ m. BufferText shape accepted text m rest rs) n (moved k (o + length g + length (text r)) rest rs m h),
          ),
        ),
      )

  -- a text of some records may stand after a gap
  pub after_gap : (o : ℕ) (gap x : List ℕ) (r : Record) (rs : List Record) → IsGap o gap → BufferText shape accepted text (o + length gap) x (r ∷ rs)
      → BufferText shape accepted text o (gap ++ x) (r ∷ rs)
  after_gap = grind (arith, nat_tests)

  -- the text of one record, at a multiple of its alignment
  pub alone : (o : ℕ) (r : Record) → IsTrue (accepted r) → o % align_of shape r ≡ 0 → BufferText shape accepted text o (text r) (r ∷ [])
  alone o r h m = grind (arith, nat_tests, append-nil)
