-- What reading answers where the bytes begin with the text of an accepted record: that record.
use Rattle.std.proofs.Common.{◌≡◌, ◌≤◌, ◌++◌, ℕ, Bool, IsTrue, List, length, take, Option, Some, None, Result, Ok, arith}
use Rattle.std.proofs.lemmas.{Bool.Decides.nat_tests, List.take-append-drop, List.length-append, List.take-append-le, List.take_at}
use Rattle.dspec_record.specs.{Words.Record, Words.IsShape, Words.IsTextOf, Words.front_epid, Words.Answers, declared.field.Shape.Shape, declared.reading.ReadKind.ReadKind}
use Rattle.dspec_record.proofs.Fronts.{front_epid-is}

-- the laws of a schema
pub record KeepsLaws (shape : ℕ → Option Shape) (accepted : Record → Bool) (text : Record → List ℕ) : Type 0 where
  pub zero_has_none : shape 0 ≡ None
  pub shapes_fit : (e : ℕ) (h : Shape) → shape e ≡ Some h → IsShape h
  pub texts_fit : (r : Record) → IsTrue (accepted r) → IsTextOf shape r (text r)
  pub texts_differ : (q r : Record) (x y : List ℕ) → IsTrue (accepted q) → IsTrue (accepted r) → text q ++ x ≡ text r ++ y → q ≡ r

-- an accepted record's text is at the front, with its EPID and its shape
record IsAtFront (shape : ℕ → Option Shape) (text : List ℕ) (bytes : List ℕ) (h : Shape) : Type 0 where
  epid : shape (front_epid bytes) ≡ Some h
  four : 4 ≤ h.size
  long : h.size ≤ length bytes
  front : take h.size bytes ≡ text

at_front : (shape : ℕ → Option Shape) (accepted : Record → Bool) (text : Record → List ℕ) → KeepsLaws shape accepted text
    → (r : Record) (rest : List ℕ) (ok : IsTrue (accepted r)) (of : IsTextOf shape r (text r)) → IsAtFront shape (text r) (text r ++ rest) of.shape_is
at_front shape accepted text laws r rest ok of = grind (arith, nat_tests, front_epid-is, take-append-le, length-append, take_at)

answer-is : (shape : ℕ → Option Shape) (accepted : Record → Bool) (text : Record → List ℕ) → KeepsLaws shape accepted text → (r : Record) (rest : List ℕ)
    → IsTrue (accepted r) → (h : Shape) → IsAtFront shape (text r) (text r ++ rest) h → (a : Result (Record × ℕ) ReadKind) → Answers shape accepted text (text r ++ rest) a
    → a ≡ Ok (r, length (text r))
answer-is = grind (arith, nat_tests, take-append-drop)

pub reads_back_by_laws : (shape : ℕ → Option Shape) (accepted : Record → Bool) (text : Record → List ℕ) → KeepsLaws shape accepted text
    → (r : Record) (rest : List ℕ) (a : Result (Record × ℕ) ReadKind) → IsTrue (accepted r) → Answers shape accepted text (text r ++ rest) a → a ≡ Ok (r, length (text r))
reads_back_by_laws shape accepted text laws r rest a ok is =
    let of = laws.texts_fit r ok in
    answer-is shape accepted text laws r rest ok of.shape_is (at_front shape accepted text laws r rest ok of) a is
