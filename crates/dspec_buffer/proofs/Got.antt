-- What a schema reads at the front of bytes, as a reader at some place answers it.
use Rattle.std.proofs.Common.{◌≡◌, ◌+◌, ◌-◌, ◌%◌, ◌<◌, ◌++◌, ℕ, Bool, Option, Err, List, length, drop, sym, ap, subst, ◌∙◌, arith, ⊎_elim, length-append, length-drop}
use Rattle.std.proofs.lemmas.{Bool.Decides.nat_tests, Bool.Decides.eqb_tells, List.take-append-drop, List.drop-drop}
use Rattle.dspec_buffer.specs.Words.{Record, front_epid, NamesShape, BeginsWith, Answers, FaultHere, NoGapAt, StandsHere, Shape, ReadKind, Misaligned}
use Rattle.dspec_buffer.proofs.{SchemaLaws.SchemaLaws, Texts.text_facts}

module _ (shape : ℕ → Option Shape) (accepted : Record → Bool) (text : Record → List ℕ) (laws : SchemaLaws shape accepted text) where
  -- where nothing is misaligned, an EPID that has a shape stands at a multiple of its alignment
  named_aligned : (at : ℕ) (left : List ℕ) (h : Shape) → ¬ FaultHere shape accepted text Misaligned at left → NamesShape shape left h → at % h.align ≡ 0
  named_aligned at left h fine n = ⊎_elim (λ p. p.1) (λ p. absurd (fine (h, (n, p.1)))) (eqb_tells (at % h.align) 0)

  pub got_record : (b : List ℕ) (at : ℕ) (r : Record) (n : ℕ) → at < length b → ¬ FaultHere shape accepted text Misaligned at (drop at b)
      → BeginsWith accepted text (drop at b) r n → StandsHere shape accepted text b at r (at + n)
  got_record b at r n in' fine h =
      let t = text_facts shape accepted text laws r h.is_accepted in
      let bytes : drop at b ≡ text r ++ drop n (drop at b) = sym (take-append-drop n (drop at b)) ∙ ap (λ z. z ++ drop n (drop at b)) h.front in
      let long : length (drop at b) ≡ length (text r) + length (drop n (drop at b)) = ap length bytes ∙ length-append (text r) (drop n (drop at b)) in
      let l : length (drop at b) ≡ length b - at = length-drop at b in
      let size = h.size in
      let least = t.least in
      let e : front_epid (drop at b) ≡ r.epid = ap front_epid bytes ∙ t.epid (drop n (drop at b)) in
      let names : NamesShape shape (drop at b) t.shape_is =
      record { four = omega arith; epid = λ z. t.named (sym e ∙ z); has_shape = ap shape e ∙ t.has_shape } in
      record {
        is_accepted = h.is_accepted;
        aligned = subst (λ m. at % m ≡ 0) t.shape_align (named_aligned at (drop at b) t.shape_is fine names);
        bytes_are = bytes ∙ ap (λ z. text r ++ z) (drop-drop n at b);
        next_is = ap (λ m. at + m) h.size;
        within = omega arith;
      }

  pub got_fault : (k : ReadKind) (at : ℕ) (left : List ℕ) → 0 < length left → NoGapAt at left → ¬ FaultHere shape accepted text Misaligned at left
      → Answers shape accepted text left (Err k) → FaultHere shape accepted text k at left
  got_fault = grind (arith, nat_tests, named_aligned)
