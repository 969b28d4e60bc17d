-- A padding word that is always written, and a text over it where there is no padding.
use Rattle.std.proofs.Common.{◌≡◌, ◌≤◌, ◌⊎◌, inl, inr, ◌+◌, ◌-◌, ◌++◌, ℕ, List, length, take, drop, replicate, sym, ap, ◌∙◌, arith, append_assoc, append-nil, length-append}
use Rattle.std.proofs.lemmas.{Bool.Decides.nat_tests, List.take-take, List.take_at, List.length-take-le, List.length-drop, List.take-append-le, Slice.take-put_mid}
use lib.Seq.{take-append-add}
use borrow.Rule.Slice.PartMut.{put_mid}

-- up to the place stand the bytes before, and the padding where there is some
up_to : (from place : ℕ) (bytes new : List ℕ) → (place ≡ from) ⊎ (place ≡ from + 4) → from ≤ length bytes → take (from + 4) new ≡ take from bytes ++ replicate 4 0
    → take place new ≡ take from bytes ++ replicate (place - from) 0
up_to from place bytes new (inl here) within put =
    let none : 0 ≡ place - from = omega (arith, here) in
    let front : length (take from bytes) ≡ from = length-take-le from bytes within in
    ap (λ z. take z new) here ∙ sym (take-take from (from + 4) new (omega arith)) ∙ ap (take from) put
    ∙ take_at (take from bytes) (replicate 4 0) from front ∙ sym (append-nil (take from bytes)) ∙ ap (λ z. take from bytes ++ replicate z 0) none
up_to from place bytes new (inr after) within put = grind (arith, nat_tests)

pub overwritten : (from place end k : ℕ) (bytes new out text : List ℕ) → (place ≡ from) ⊎ (place ≡ from + 4) → end ≡ place + length text → from ≤ length bytes → place ≤ length new
    → length text ≤ length out → take (from + 4) new ≡ take from bytes ++ replicate 4 0 → take (length text) out ≡ text
    → take end (put_mid place k new out) ≡ take from bytes ++ (replicate (place - from) 0 ++ text)
overwritten from place end k bytes new out text gap is within inside short padded put =
    let rest : List ℕ = drop k (drop place new) in
    let front : length (take place new) ≡ place = length-take-le place new inside in
    let far : end ≡ length (take place new) + length text = omega (arith, is, front) in
    ap (λ z. take z (take place new ++ (out ++ rest))) far ∙ take-append-add (take place new) (out ++ rest) (length text)
    ∙ ap (λ z. take place new ++ z) (take-append-le (length text) out rest short ∙ put)
    ∙ ap (λ z. z ++ text) (up_to from place bytes new gap within padded)
    ∙ append_assoc (take from bytes) (replicate (place - from) 0) text

-- the zeros of the padding word, and the text over them
pub covered : (from place end k : ℕ) (bytes zeros out text : List ℕ) → zeros ≡ replicate 4 0 → (place ≡ from) ⊎ (place ≡ from + 4) → end ≡ place + length text → end + 8 ≤ length bytes
    → length text ≤ length out → take (length text) out ≡ text
    → take end (put_mid place k (put_mid from (from + 4 - from) bytes zeros) out) ≡ take from bytes ++ (replicate (place - from) 0 ++ text)
covered from place end k bytes zeros out text none gap is room short put =
    let new : List ℕ = put_mid from (from + 4 - from) bytes zeros in
    let four : length zeros ≡ 4 = ap length none in
    let long : length new ≡ length bytes = omega (
      arith,
      four,
      gap,
      is,
      room,
      length-append (take from bytes) (zeros ++ drop (from + 4 - from) (drop from bytes)),
      length-append zeros (drop (from + 4 - from) (drop from bytes)),
      length-take-le from bytes (omega (arith, gap, is, room)),
      length-drop (from + 4 - from) (drop from bytes),
      length-drop from bytes,
    ) in
    let padded : take (from + 4) new ≡ take from bytes ++ replicate 4 0 =
    take-put_mid from (from + 4 - from) bytes zeros (from + 4) (ap (λ z. from + z) (sym four)) (omega (arith, gap, is, room)) ∙ ap (λ z. take from bytes ++ z) none in
    overwritten from place end k bytes new out text gap is (omega (arith, gap, is, room)) (omega (arith, gap, is, room, long)) short padded put
