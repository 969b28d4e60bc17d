-- An empty text is that of no records, and has packets unless memory is wanting.
use Rattle.std.proofs.Common.{◌≡◌, ◌∙◌, ℕ, Bool, false, List, [], ◌∷◌, ◌++◌, Option, refl, sym, ap, arith, length}
use Rattle.std.proofs.lemmas.Bool.Decides.{nat_tests}
use Rattle.dspec_ctf_sink.specs.Words.{Record, EnabledRows, enabled, table_shape, table_accepts, table_text, enabled-IsLimited, table-shapes_fit, table-texts_fit, table-texts_differ, FaultHere}
use Rattle.dspec_ctf_sink.specs.Words.{AreFilledOf, filled_packets, HasNoPacket, IsText, Shape, ReadKind, PacketFault, Memory}
use Rattle.dspec_buffer.proofs.{OneReading.one_reading, SchemaLaws.SchemaLaws}

-- what is left of nothing is nothing
none_left : (before gap left : List ℕ) → [] ≡ before ++ (gap ++ left) → length left ≡ 0
none_left [] [] left is = ap length (sym is)
none_left [] (x ∷ gap) left is = absurd (cc (is))
none_left (x ∷ before) gap left is = absurd (cc (is))

module _ (shape : ℕ → Option Shape) (accepted : Record → Bool) (text : Record → List ℕ) where
  -- and has no fault
  no_fault_there : (k : ReadKind) (at : ℕ) (left : List ℕ) → length left ≡ 0 → FaultHere shape accepted text k at left → ⊥
  no_fault_there = grind (arith, nat_tests)

module _ (e : EnabledRows) where
  pub laws : SchemaLaws (table_shape e.header (enabled e.rows)) (table_accepts e.header (enabled e.rows)) (table_text e.header (enabled e.rows))
  laws = record {
    zero_has_none = refl;
    shapes_fit = table-shapes_fit e.header (enabled e.rows) (enabled-IsLimited e.rows);
    texts_fit = table-texts_fit e.header (enabled e.rows);
    texts_differ = table-texts_differ e.header (enabled e.rows);
  }

  no_records : (rs : List Record) → IsText e [] rs → rs ≡ []
  no_records rs is =
      one_reading (table_shape e.header (enabled e.rows)) (table_accepts e.header (enabled e.rows)) (table_text e.header (enabled e.rows)) laws 0 [] rs [] is refl

  pub only_memory : (fault : PacketFault) → HasNoPacket e 0 0 [] fault → fault ≡ Memory
  only_memory = grind (arith, nat_tests, no_fault_there, none_left, no_records)

  pub is_silent : (uuid : List ℕ) (cpu : ℕ) (bytes : List ℕ) → AreFilledOf e uuid 0 cpu [] bytes → bytes ≡ filled_packets false e uuid 0 cpu []
  is_silent uuid cpu bytes are = are.bytes_are ∙ ap (filled_packets false e uuid 0 cpu) (no_records are.read are.is_text)
