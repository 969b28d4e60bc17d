-- No bytes are the text of two lists of records; and a text that goes on after another is read on from there.
use Rattle.std.proofs.Common.{◌≡◌, ◌+◌, ◌++◌, ℕ, Bool, Option, List, [], ◌∷◌, length, refl, ap, subst, ◌∙◌, arith, append_assoc}
use Rattle.std.proofs.lemmas.Bool.Decides.{nat_tests}
use Rattle.dspec_buffer.specs.Words.{Record, StandsNext, BufferText, Shape}
use Rattle.dspec_buffer.proofs.{Nexts.SameNext, Nexts.next_same, Nexts.next_long, Nexts.next_not_nil, SchemaLaws.SchemaLaws}

module _ (shape : ℕ → Option Shape) (accepted : Record → Bool) (text : Record → List ℕ) (laws : SchemaLaws shape accepted text) where
  -- what follows a record follows it wherever the same record is next
  pub follows : (o : ℕ) (g g' : List ℕ) (q r : Record) (x y : List ℕ) (qs : List Record) → SameNext shape accepted text laws g g' q r x y
      → BufferText shape accepted text (o + length g' + length (text r)) y qs → BufferText shape accepted text (o + length g + length (text q)) x qs
  follows o g g' q r x y qs same h = grind (arith, nat_tests)

  pub one_reading : (o : ℕ) (b : List ℕ) (rs qs : List Record) → BufferText shape accepted text o b rs → BufferText shape accepted text o b qs → rs ≡ qs
  one_reading o b [] [] h k = refl
  one_reading o b [] (q ∷ qs) h (g, (x, (s, k))) =
      absurd (next_not_nil shape accepted text laws o g q x (subst (λ z. StandsNext shape accepted text o z g q x) h s))
  one_reading o b (r ∷ rs) [] (g, (x, (s, k))) h =
      absurd (next_not_nil shape accepted text laws o g r x (subst (λ z. StandsNext shape accepted text o z g r x) h s))
  one_reading o b (r ∷ rs) (q ∷ qs) (g, (x, (s, h))) (g', (y, (t, k))) =
      let same = next_same shape accepted text laws o b g g' r q x y s t in
      let others = one_reading (o + length g + length (text r)) x rs qs h (follows o g g' r q x y qs same k) in
      let first = same.same_record in
      cc

  -- the records that stand after a text
  pub record GoesOn (o : ℕ) (left : List ℕ) (rs qs : List Record) : Type 0 where
    pub others : List Record
    pub all : qs ≡ rs ++ others
    pub is_text : BufferText shape accepted text o left others

  pub goes_on : (o : ℕ) (b left : List ℕ) (rs qs : List Record) → BufferText shape accepted text o b rs → BufferText shape accepted text o (b ++ left) qs → GoesOn (o + length b) left rs qs
  goes_on o b left [] qs h k = grind (arith, nat_tests)
  goes_on o b left (r ∷ rs) [] (g, (x, (s, h))) k = grind (arith, nat_tests, next_long)
  goes_on o b left (r ∷ rs) (q ∷ qs) (g, (x, (s, h))) (g', (y, (t, k))) =
      let e : b ++ left ≡ g ++ (text r ++ (x ++ left)) =
      ap (λ z. z ++ left) s.bytes_are ∙ append_assoc g (text r ++ x) left ∙ ap (λ z. g ++ z) (append_assoc (text r) x left) in
      let s' : StandsNext shape accepted text o (b ++ left) g r (x ++ left) =
      record { is_accepted = s.is_accepted; is_gap = s.is_gap; aligned = s.aligned; bytes_are = e } in
      let same = next_same shape accepted text laws o (b ++ left) g g' r q (x ++ left) y s' t in
      let i = goes_on (o + length g + length (text r)) x left rs qs h (follows o g g' r q (x ++ left) y qs same k) in
      let l = next_long shape accepted text laws o b g r x s in
      let n : o + length g + length (text r) + length x ≡ o + length b = omega arith in
      let first = same.same_record in
      let others = i.all in
      record {
        others = i.others;
        all = cc;
        is_text = subst (λ m. BufferText shape accepted text m left i.others) n i.is_text;
      }
