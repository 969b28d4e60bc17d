-- Texts one after another: what is read at a place where the records after it are known.
use Rattle.std.proofs.Common.{◌≡◌, ◌+◌, ◌++◌, ℕ, Bool, IsTrue, Option, Some, None, Ok, Err, List, [], ◌∷◌, length, drop, sym, ap, subst, ◌∙◌, arith, length-append, length-drop}
use Rattle.std.proofs.lemmas.{Bool.Decides.nat_tests, List.take-append-drop, List.take_at, List.drop-drop, List.append_cancel_left}
use Rattle.std.specs.List.{flat_map}
use Rattle.dspec_buffer.specs.Words.{Record, NamesShape, Answers, HasTexts, StepsAhead, Shape, ReadKind}
use Rattle.dspec_buffer.proofs.{Accepted.first_accepted, Accepted.others_accepted, SchemaLaws.SchemaLaws, Texts.text_facts}

module _ (shape : ℕ → Option Shape) (accepted : Record → Bool) (text : Record → List ℕ) (laws : SchemaLaws shape accepted text) where
  same_size : (r : Record) (x : List ℕ) (s : Shape) → IsTrue (accepted r) → NamesShape shape (text r ++ x) s → s.size ≡ length (text r)
  same_size r x s h n = grind (arith, nat_tests, text_facts)

  long_text : (r : Record) (x : List ℕ) → length (text r ++ x) ≡ length (text r) + length x
  long_text r x = length-append (text r) x

  -- where a text stands at the front, no fault is answered
  no_fault : (k : ReadKind) (r : Record) (x : List ℕ) → IsTrue (accepted r) → Answers shape accepted text (text r ++ x) (Err k) → ⊥
  no_fault = grind (arith, nat_tests, text_facts, long_text, same_size, take_at)

  -- nothing is read where no bytes are left
  nothing : (found : Record × ℕ) → Answers shape accepted text [] (Ok found) → ⊥
  nothing = grind (arith, nat_tests, text_facts, take-append-drop, long_text)

  -- the record that is read is the first of those before the walk, and the others are before it at the next place
  pub steps_over : (texts : List ℕ) (place : ℕ) (rs : List Record) (r : Record) (n : ℕ) → HasTexts accepted text texts place rs
      → Answers shape accepted text (drop place texts) (Ok (r, n)) → StepsAhead (HasTexts accepted text texts) rs (Some (r, place + n))
  steps_over texts place [] r n h k =
      absurd (nothing (r, n) (subst (λ z. Answers shape accepted text z (Ok (r, n))) h.texts_are k))
  steps_over texts place (q ∷ qs) r n h k =
      let front : drop place texts ≡ text r ++ drop n (drop place texts) = sym (take-append-drop n (drop place texts)) ∙ ap (λ z. z ++ drop n (drop place texts)) k.front in
      let both : text r ++ drop n (drop place texts) ≡ text q ++ flat_map text qs = sym front ∙ h.texts_are in
      let q_accepted = first_accepted accepted q qs h.all_accepted in
      let same : r ≡ q = laws.texts_differ r q (drop n (drop place texts)) (flat_map text qs) k.is_accepted q_accepted both in
      let rest : drop n (drop place texts) ≡ flat_map text qs =
      append_cancel_left (text q) (drop n (drop place texts)) (flat_map text qs) (ap (λ z. text z ++ drop n (drop place texts)) (sym same) ∙ both) in
      let long = ap length front ∙ long_text r (drop n (drop place texts)) in
      let l = length-drop place texts in
      let within = h.within in
      let size = k.size in (
        place + n,
        (
          ap (λ z. Some (z, place + n)) same,
          record {
            within = omega arith;
            all_accepted = others_accepted accepted q qs h.all_accepted;
            texts_are = sym (drop-drop n place texts) ∙ rest;
          },
        ),
      )

  -- nothing is read at the end alone
  pub steps_none : (texts : List ℕ) (place : ℕ) (rs : List Record) (k : ReadKind) → HasTexts accepted text texts place rs
      → Answers shape accepted text (drop place texts) (Err k) → StepsAhead (HasTexts accepted text texts) rs None
  steps_none = grind (arith, nat_tests, no_fault, first_accepted)
