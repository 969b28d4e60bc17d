-- A value that is written in eight bytes, with the zeros after it.
use Rattle.std.proofs.Common.{◌≡◌, ◌≤◌, ◌<◌, ◌+◌, ◌-◌, ◌++◌, ◌^◌, ℕ, zero, suc, List, [], ◌∷◌, length, take, drop, get_or, replicate, sym, ◌∙◌, ap, arith, refl}
use Rattle.std.proofs.Math.Seq.{take-append-add}
use Rattle.std.proofs.lemmas.Bool.Decides.{nat_tests}
use Rattle.std.proofs.lemmas.List.{append_assoc, length-append, length-take-le, length-drop, get_or-append_right, get_or-replicate, get_or-take, get_or-drop, take-take, drop-take, take-append-drop}
use Rattle.dspec_record.specs.Words.{width, rounded_up, little_endian, gap, IsClearAfter, rounded_up-ge}
use Rattle.dspec_record.specs.declared.field.Field.{Field, TheVariants.One, TheVariants.Two, TheVariants.Four, TheVariants.Eight}
use Rattle.dspec_record.proofs.LittleEndian.{take-little_endian}

-- a value is known from its field's bytes; those above are zero
eight_bytes : (f : Field) (v : ℕ) → v < 256 ^ width f → little_endian 8 v ≡ little_endian (width f) v ++ replicate (8 - width f) 0
eight_bytes One v h = grind (arith, nat_tests)
eight_bytes Two v h = grind (arith, nat_tests)
eight_bytes Four v h = grind (arith, nat_tests)
eight_bytes Eight v h = refl

-- bytes that are zero one by one
zeros : (n : ℕ) (xs : List ℕ) → n ≤ length xs → ((k : ℕ) → k < n → get_or xs k 0 ≡ 0) → take n xs ≡ replicate n 0
zeros zero xs long each = refl
zeros (suc n) [] long each = absurd (omega arith)
zeros (suc n) (x ∷ xs) long each =
    let first : x ≡ 0 = each 0 (omega arith) in
    let rest : take n xs ≡ replicate n 0 = zeros n xs (omega arith) (λ k below. each (suc k) (omega arith)) in
    λ i. first i ∷ rest i

-- a part of what is clear
pub clear-part : (end n : ℕ) (xs : List ℕ) → end + n ≤ length xs → end + n ≤ rounded_up end 8 → IsClearAfter end xs → take n (drop end xs) ≡ replicate n 0
clear-part end n xs long near clear =
    zeros n (drop end xs) (omega (arith, length-drop end xs)) (λ k below. get_or-drop end xs k 0 ∙ clear (end + k) (omega arith) (omega arith))

pub take-add : (n m : ℕ) (xs : List ℕ) → take n xs ++ take m (drop n xs) ≡ take (n + m) xs
take-add n m xs =
    sym (ap (λ p. p ++ take m (drop n xs)) (take-take n (n + m) xs (omega arith)))
    ∙ sym (ap (λ q. take n (take (n + m) xs) ++ q) (drop-take n m xs))
    ∙ take-append-drop n (take (n + m) xs)

width-le : (f : Field) → width f ≤ 8
width-le One = omega arith
width-le Two = omega arith
width-le Four = omega arith
width-le Eight = omega arith

place-near : (f : Field) (end place : ℕ) → place ≡ rounded_up end (width f) → place ≤ rounded_up end 8
place-near One end place at = omega arith
place-near Two end place at = omega arith
place-near Four end place at = omega arith
place-near Eight end place at = omega arith

-- the gap before the value is clear, and the value stands after it
pub written-put : (f : Field) (v end place : ℕ) (out new : List ℕ) → take (place + 8) new ≡ take place out ++ little_endian 8 v → place ≡ rounded_up end (width f)
    → place + 8 ≤ length out → IsClearAfter end out → take (place + width f) new ≡ take end out ++ (gap end (width f) ++ little_endian (width f) v)
written-put f v end place out new put at room clear =
    let bytes : List ℕ = little_endian (width f) v in
    let few : width f ≤ 8 = width-le f in
    let low : end ≤ place = omega (arith, rounded_up-ge f end) in
    let near : place ≤ rounded_up end 8 = place-near f end place at in
    let hole : take (place - end) (drop end out) ≡ gap end (width f) =
    clear-part end (place - end) out (omega arith) (omega arith) clear ∙ ap (λ p. replicate (p - end) 0) at in
    let to_place : take place out ≡ take end out ++ gap end (width f) =
    ap (λ n. take n out) (omega arith) ∙ sym (take-add end (place - end) out) ∙ ap (λ t. take end out ++ t) hole in
    let long : length (take place out) ≡ place = length-take-le place out (omega arith) in
    sym (take-take (place + width f) (place + 8) new (omega arith))
    ∙ ap (take (place + width f)) put
    ∙ ap (λ n. take (n + width f) (take place out ++ little_endian 8 v)) (sym long)
    ∙ take-append-add (take place out) (little_endian 8 v) (width f)
    ∙ ap (λ t. take place out ++ t) (take-little_endian (width f) 8 v few)
    ∙ ap (λ t. t ++ bytes) to_place ∙ append_assoc (take end out) (gap end (width f)) bytes

-- a field ends where the word that begins at its place does, or before
ends-within : (f : Field) (end place k : ℕ) → place ≡ rounded_up end (width f) → k < rounded_up (place + width f) 8 → k < place + 8
ends-within One end place k at near = omega arith
ends-within Two end place k at near = omega arith
ends-within Four end place k at near = omega arith
ends-within Eight end place k at near = omega arith

-- and what is after it is clear
pub written-clear : (f : Field) (v end place : ℕ) (out new : List ℕ) → take (place + 8) new ≡ take place out ++ little_endian 8 v → v < 256 ^ width f → place ≡ rounded_up end (width f)
    → place + 8 ≤ length out → IsClearAfter (place + width f) new
written-clear f v end place out new put holds at room =
    grind (arith, nat_tests, width-le, ends-within, length-append, length-take-le, get_or-take, eight_bytes, append_assoc, get_or-append_right, get_or-replicate)
