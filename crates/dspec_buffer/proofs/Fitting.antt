-- Where a piece is placed, and that it is refused just where it doesn't fit.
use Rattle.std.proofs.Common.{◌≡◌, ◌≢◌, ◌+◌, ◌-◌, ◌%◌, ◌≤◌, ◌<◌, ◌⊎◌, ◌++◌, ℕ, true, false, List, [], ◌∷◌, length, take, drop, replicate, sym, ap, ◌∙◌, arith, ⊎_elim, nat_le, Option, Some, None}
use Rattle.std.proofs.Common.{append_assoc, length-append}
use Rattle.std.proofs.lemmas.{Bool.Decides.nat_tests, Bool.Decides.leb_tells, List.length-take-le, List.take-take, List.take-append-le, Slice.take-put_mid}
use borrow.Rule.Slice.PartMut.{put_mid}
use Rattle.std.specs.Option.{MatchOption, is_some}
use Rattle.dspec_buffer.specs.Words.{rounded_up, after, reserved, padding, padded}
use Rattle.dspec_buffer.proofs.{Padding.padding_facts, Padding.reserved_some, Padding.reserved_none, Rounding.rounded}

yes_le : (a b : ℕ) → a ≤ b → true ≡ nat_le a b
yes_le a b h = ⊎_elim (λ p. sym p.0) (λ p. let q = p.1 in absurd (omega arith)) (leb_tells a b)

no_le : (a b : ℕ) → b < a → false ≡ nat_le a b
no_le a b h = ⊎_elim (λ p. let q = p.1 in absurd (omega arith)) (λ p. sym p.0) (leb_tells a b)

pub refuses : (o a n limit : ℕ) → n ≢ 0 → limit < after o a n → false ≡ nat_le (reserved o a n) limit
refuses o a n limit h l = rw (reserved_some o a n h) (no_le (rounded_up o a + n) limit l)

pub admits : (o a n limit p : ℕ) → n ≢ 0 → p ≡ rounded_up o a → p + n ≤ limit → true ≡ nat_le (reserved o a n) limit
admits o a n limit p h e l = rw (reserved_some o a n h) (yes_le (rounded_up o a + n) limit (omega arith))

pub admits_none : (o a n limit : ℕ) → n ≡ 0 → o ≤ limit → true ≡ nat_le (reserved o a n) limit
admits_none o a n limit h l = rw (reserved_none o a n h) (yes_le o limit l)

-- what `place_for` answers is what fits
pub answers : (o a n limit : ℕ) (r : Option ℕ) → n ≢ 0 → MatchOption r (limit < after o a n) (λ p. (p ≡ rounded_up o a) × (p + n ≤ limit)) → is_some r ≡ nat_le (reserved o a n) limit
answers o a n limit None h m = refuses o a n limit h m
answers o a n limit (Some p) h m = admits o a n limit p h m.0 m.1

pub record IsPlaced (o a n p : ℕ) : Type 0 where
  pub words : (p + n) % 4 ≡ 0
  pub step : (p ≡ o) ⊎ (p ≡ o + 4)
  pub above : o ≤ p
  pub end_is : p + n ≡ reserved o a n

pub placed : (o a n p : ℕ) → o % 4 ≡ 0 → (a ≡ 4) ⊎ (a ≡ 8) → n % 4 ≡ 0 → n ≢ 0 → p ≡ rounded_up o a → IsPlaced o a n p
placed o a n p h k w m e = grind (arith, nat_tests, rounded, reserved_some)

-- bytes after the padding, written into a slice: up to their end the slice has what it had, the padding and the bytes
pub laid : (o a p n : ℕ) (items xs out : List ℕ) → o % 4 ≡ 0 → (a ≡ 4) ⊎ (a ≡ 8) → p ≡ rounded_up o a → n ≢ 0 → length out ≡ n → p ≤ length xs
    → take p xs ≡ take o items ++ replicate (p - o) 0 → take (p + n) (put_mid p (p + n - p) xs out) ≡ take o items ++ padded o a out
laid o a p n items xs [] h k e m l within pad = absurd (m (sym l))
laid o a p n items xs (b ∷ bs) h k e m l within pad =
    let facts = padding_facts o a h k in
    let zeros : replicate (p - o) 0 ≡ padding o a = ap (λ z. replicate (z - o) 0) e ∙ sym facts.zeros in
    take-put_mid p (p + n - p) xs (b ∷ bs) (p + n) (ap (λ z. p + z) (sym l)) within ∙ ap (λ z. z ++ b ∷ bs) (pad ∙ ap (λ z. take o items ++ z) zeros)
    ∙ append_assoc (take o items) (padding o a) (b ∷ bs)

-- the same of a `Vec` that had some items, once the slice is written back to it
pub laid_back : (o a p n len : ℕ) (items had xs out : List ℕ) → o % 4 ≡ 0 → (a ≡ 4) ⊎ (a ≡ 8) → p ≡ rounded_up o a → n ≢ 0 → length out ≡ n → p ≤ length xs → p + n ≤ len
    → take p xs ≡ take o items ++ replicate (p - o) 0 → take (p + n) (take len (put_mid p (p + n - p) xs out ++ drop (length (put_mid p (p + n - p) xs out)) had)) ≡ take o items ++ padded o a out
laid_back o a p n len items had xs out h k e m l within room pad =
    let ws = put_mid p (p + n - p) xs out in
    let front : length (take p xs) ≡ p = length-take-le p xs within in
    let long : length ws ≡ length (take p xs) + (length out + length (drop (p + n - p) (drop p xs))) =
    length-append (take p xs) (out ++ drop (p + n - p) (drop p xs)) ∙ ap (λ z. length (take p xs) + z) (length-append out (drop (p + n - p) (drop p xs))) in
    take-take (p + n) len (ws ++ drop (length ws) had) room ∙ take-append-le (p + n) ws (drop (length ws) had) (omega arith) ∙ laid o a p n items xs out h k e m l within pad

-- padding and bytes written by a call, up to their end, once the slice is written back
pub laid_whole : (o a p n len : ℕ) (items had new out : List ℕ) → o % 4 ≡ 0 → (a ≡ 4) ⊎ (a ≡ 8) → p ≡ rounded_up o a → n ≢ 0 → length out ≡ n → p + n ≤ len
    → p + n ≤ length new → take (p + n) new ≡ take o items ++ (replicate (p - o) 0 ++ out) → take (p + n) (take len (new ++ drop (length new) had)) ≡ take o items ++ padded o a out
laid_whole = grind (arith, nat_tests, padding_facts, take-take, take-append-le)
