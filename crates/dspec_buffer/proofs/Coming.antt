-- How far a reader has come: the bytes before it are the text of the records that it has read.
use Rattle.std.proofs.Common.{◌≡◌, ◌+◌, ◌++◌, ℕ, Bool, Option, List, [], ◌∷◌, length, take, drop, refl, sym, ap, subst, ◌∙◌, arith, length-append, append_assoc}
use Rattle.std.proofs.lemmas.{Bool.Decides.nat_tests, List.append-nil, List.take-append-drop, List.length-take-le, List.take_at, List.take_all}
use Rattle.dspec_buffer.specs.{Words.Record, Words.BufferText, Words.StopsAt, Words.StopsAfter, Words.HasRead, Words.NextIs, Words.FaultIs, Words.Shape, declared.read_fault.ReadFault.ReadFault}
use Rattle.dspec_buffer.proofs.{Gluing.glued, SchemaLaws.SchemaLaws}

module _ (shape : ℕ → Option Shape) (accepted : Record → Bool) (text : Record → List ℕ) (laws : SchemaLaws shape accepted text) where
  -- one record more stands up to the next place
  pub text_with_one : (b : List ℕ) (o : ℕ) (r : Record) (next : ℕ) → (h : HasRead shape accepted text b o) → NextIs shape accepted text b o r next
      → BufferText shape accepted text 0 (take next b) (h.read ++ r ∷ [])
  text_with_one b o r next h n =
      let piece = n.gap ++ text r in
      let front : length (take o b) ≡ o = length-take-le o b h.within in
      let whole : b ≡ (take o b ++ piece) ++ drop next b =
      sym (take-append-drop o b) ∙ ap (λ z. take o b ++ z) (n.stands.bytes_are ∙ sym (append_assoc n.gap (text r) (drop next b))) ∙ sym (append_assoc (take o b) piece (drop next b)) in
      let size : length piece ≡ length n.gap + length (text r) = length-append n.gap (text r) in
      let long : length (take o b ++ piece) ≡ next = length-append (take o b) piece ∙ (let e = n.next_is in omega arith) in
      let bytes : take next b ≡ take o b ++ piece = ap (take next) whole ∙ take_at (take o b ++ piece) (drop next b) next long in
      let last : BufferText shape accepted text o piece (r ∷ []) =
      (n.gap, ([], (record { is_accepted = n.stands.is_accepted; is_gap = n.stands.is_gap; aligned = n.stands.aligned; bytes_are = ap (λ z. n.gap ++ z) (sym (append-nil (text r))) }, refl))) in
      let at : o ≡ 0 + length (take o b) = omega arith in
      let all = glued shape accepted text laws 0 (take o b) piece h.read (r ∷ []) h.is_text (subst (λ m. BufferText shape accepted text m piece (r ∷ [])) at last) in
      subst (λ z. BufferText shape accepted text 0 z (h.read ++ r ∷ [])) (sym bytes) all

  pub reads_one : (b : List ℕ) (o : ℕ) (r : Record) (next : ℕ) → HasRead shape accepted text b o → NextIs shape accepted text b o r next → HasRead shape accepted text b next
  reads_one b o r next h n =
      record { within = n.within; read = h.read ++ r ∷ []; is_text = text_with_one b o r next h n }

  pub reads_all : (b : List ℕ) (o : ℕ) → (h : HasRead shape accepted text b o) → o ≡ length b → BufferText shape accepted text 0 b h.read
  reads_all b o h e =
      subst (λ z. BufferText shape accepted text 0 z h.read) (take_all o b (omega arith)) h.is_text

  pub stops : (b : List ℕ) (o : ℕ) (fault : ReadFault) → HasRead shape accepted text b o → FaultIs shape accepted text b o fault → StopsAt shape accepted text b fault
  stops b o fault h f = grind (arith, nat_tests, length-take-le, take-append-drop)

  -- and what it has read are the whole records before the fault
  pub stops_after : (b : List ℕ) (o : ℕ) (fault : ReadFault) → (h : HasRead shape accepted text b o) → FaultIs shape accepted text b o fault
      → StopsAfter shape accepted text b h.read fault
  unfolding stops
  stops_after b o fault h f = (stops b o fault h f, refl)
