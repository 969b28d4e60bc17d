-- The laws of a schema, as lemmas over plain functions take them.
use Rattle.std.specs.Prelude.{◌≡◌, ◌++◌, ℕ, Bool, IsTrue, List, Option, Some, None}
use Rattle.dspec_buffer.specs.Words.{Record, IsShape, IsTextOf, Shape}

pub record SchemaLaws (shape : ℕ → Option Shape) (accepted : Record → Bool) (text : Record → List ℕ) : Type 0 where
  pub zero_has_none : shape 0 ≡ None
  pub shapes_fit : (e : ℕ) (h : Shape) → shape e ≡ Some h → IsShape h
  pub texts_fit : (r : Record) → IsTrue (accepted r) → IsTextOf shape r (text r)
  pub texts_differ : (q r : Record) (x y : List ℕ) → IsTrue (accepted q) → IsTrue (accepted r) → text q ++ x ≡ text r ++ y → q ≡ r

-- as the bounds of a function give them
pub laws_from : {shape : ℕ → Option Shape} {accepted : Record → Bool} {text : Record → List ℕ} → shape 0 ≡ None → ((e : ℕ) (h : Shape) → shape e ≡ Some h → IsShape h)
    → ((r : Record) → IsTrue (accepted r) → IsTextOf shape r (text r)) → ((q r : Record) (x y : List ℕ) → IsTrue (accepted q) → IsTrue (accepted r) → text q ++ x ≡ text r ++ y → q ≡ r)
    → SchemaLaws shape accepted text
laws_from none fit texts differ = record { zero_has_none = none; shapes_fit = fit; texts_fit = texts; texts_differ = differ }
