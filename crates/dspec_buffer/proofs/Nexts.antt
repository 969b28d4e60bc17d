-- At a place of some bytes at most one record can be next.
use Rattle.std.proofs.Common.{◌≡◌, ◌+◌, ◌≤◌, ◌++◌, ℕ, Bool, IsTrue, Option, List, [], length, ap, ◌∙◌, arith, length-append}
use Rattle.std.proofs.lemmas.{Bool.Decides.nat_tests, List.append_cancel_left}
use Rattle.dspec_buffer.specs.Words.{Record, padding_word, StandsNext, Shape}
use Rattle.dspec_buffer.proofs.{SchemaLaws.SchemaLaws, Texts.text_facts, Texts.front_epid-padding}

module _ (shape : ℕ → Option Shape) (accepted : Record → Bool) (text : Record → List ℕ) (laws : SchemaLaws shape accepted text) where
  -- a record's text doesn't begin with a padding word
  pub text_no_padding : (r : Record) (x y : List ℕ) → IsTrue (accepted r) → text r ++ x ≡ padding_word ++ y → ⊥
  text_no_padding r x y h e = grind (arith, nat_tests, text_facts, front_epid-padding)

  pub same_texts : (q r : Record) (x y : List ℕ) → IsTrue (accepted q) → IsTrue (accepted r) → text q ++ x ≡ text r ++ y → (q ≡ r) × (x ≡ y)
  same_texts q r x y h k e = grind (arith, nat_tests, append_cancel_left)

  pub record SameNext (g g' : List ℕ) (q r : Record) (x y : List ℕ) : Type 0 where
    pub same_gap : g ≡ g'
    pub same_record : q ≡ r
    pub same_rest : x ≡ y

  pub next_same : (o : ℕ) (b g g' : List ℕ) (q r : Record) (x y : List ℕ) → StandsNext shape accepted text o b g q x → StandsNext shape accepted text o b g' r y → SameNext g g' q r x y
  next_same o b g g' q r x y s t = grind (arith, nat_tests, same_texts, text_no_padding, append_cancel_left)

  -- where a record is next there are bytes
  pub next_long : (o : ℕ) (b g : List ℕ) (r : Record) (x : List ℕ) → StandsNext shape accepted text o b g r x → (length b ≡ length g + length (text r) + length x) × (4 ≤ length (text r))
  next_long o b g r x s =
      let t = text_facts shape accepted text laws r s.is_accepted in
      (ap length s.bytes_are ∙ length-append g (text r ++ x) ∙ ap (λ n. length g + n) (length-append (text r) x) ∙ omega arith, t.least)

  pub next_not_nil : (o : ℕ) (g : List ℕ) (r : Record) (x : List ℕ) → StandsNext shape accepted text o [] g r x → ⊥
  next_not_nil o g r x s = let l = next_long o [] g r x s in omega arith
