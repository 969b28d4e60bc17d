-- A record that says itself what its shape and its bytes are, and a schema that says the same.
use Rattle.std.proofs.Common.{◌≡◌, ◌≤◌, ◌+◌, ◌∙◌, ℕ, true, arith, List, length, take, Option, Some, None, option_map, is_some, IfSome, sym, ap}
use Rattle.dspec_buffer.specs.Words.{Record, Laid, IsLaidBy, rounded_up, Shape}

-- rounding up to whole words of eight bytes adds fewer than eight
rounded_below : (n : ℕ) → rounded_up n 8 ≤ n + 7
rounded_below n = omega arith

pub said_shape : (shape : ℕ → Option Shape) (text : Record → List ℕ) (r : Record) (laid : Option Laid) (h : Shape) → IsLaidBy shape text r laid
    → option_map (λ (l : Laid). l.shape) laid ≡ Some h → Some h ≡ shape r.epid
said_shape shape text r None h is e = absurd (cc)
said_shape shape text r (Some l) h is e = sym e ∙ sym is.same_shape

-- there is room for its words where there is room for its text and eight bytes more
pub said_room : (shape : ℕ → Option Shape) (text : Record → List ℕ) (r : Record) (laid : Option Laid) (room : ℕ) → IsLaidBy shape text r laid
    → length (text r) + 8 ≤ room → IfSome laid (λ l. rounded_up (length l.text) 8 ≤ room)
said_room shape text r None room is much = tt
said_room shape text r (Some l) room is much = let same = ap length is.same_text in let above = rounded_below (length l.text) in omega arith

-- what the slice begins with is its text by the schema
pub said_text : (shape : ℕ → Option Shape) (text : Record → List ℕ) (r : Record) (laid : Option Laid) (out : List ℕ) → IsLaidBy shape text r laid
    → is_some laid ≡ true → IfSome laid (λ l. take (length l.text) out ≡ l.text) → take (length (text r)) out ≡ text r
said_text shape text r None out is some put = absurd (cc)
said_text shape text r (Some l) out is some put = ap (λ z. take (length z) out) is.same_text ∙ put ∙ sym is.same_text
