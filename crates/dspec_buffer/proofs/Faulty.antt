-- Bytes that reading stops in are the text of no list of records.
use Rattle.std.proofs.Common.{◌≡◌, ◌+◌, ◌++◌, ℕ, Bool, Option, List, [], ◌∷◌, length, refl, subst, arith}
use Rattle.std.proofs.lemmas.Bool.Decides.{nat_tests}
use Rattle.dspec_buffer.specs.{Words.Record, Words.IsGap, Words.BufferText, Words.FaultHere, Words.StopsAt, Words.Shape, Words.ReadKind, declared.read_fault.ReadFault.ReadFault}
use Rattle.dspec_buffer.proofs.{NoRecord.fault_long, NoRecord.fault_excludes, OneReading.goes_on, SchemaLaws.SchemaLaws}

module _ (shape : ℕ → Option Shape) (accepted : Record → Bool) (text : Record → List ℕ) (laws : SchemaLaws shape accepted text) where
  -- after a gap with a fault there is no text
  pub no_text_here : (k : ReadKind) (o : ℕ) (b gap left : List ℕ) (qs : List Record) → IsGap o gap → b ≡ gap ++ left → FaultHere shape accepted text k (o + length gap) left
      → BufferText shape accepted text o b qs → ⊥
  no_text_here k o b gap left [] i e f t = grind (arith, nat_tests, fault_long)
  no_text_here k o b gap left (q ∷ qs) i e f (g, (x, (s, t))) =
      fault_excludes shape accepted text laws k o b gap left g q x i e f s

  pub stops_unreadable : (b : List ℕ) (fault : ReadFault) (rs : List Record) → StopsAt shape accepted text b fault → BufferText shape accepted text 0 b rs → ⊥
  stops_unreadable b fault rs s t =
      let g = goes_on shape accepted text laws 0 s.before (s.gap ++ s.left) s.read rs s.is_text (subst (λ z. BufferText shape accepted text 0 z rs) s.bytes_are t) in
      let n : 0 + length s.before ≡ length s.before = omega arith in
      let t' = subst (λ m. BufferText shape accepted text m (s.gap ++ s.left) g.others) n g.is_text in
      no_text_here fault.kind (length s.before) (s.gap ++ s.left) s.gap s.left g.others s.is_gap refl (subst (λ m. FaultHere shape accepted text fault.kind m s.left) s.place s.fault_here) t'
