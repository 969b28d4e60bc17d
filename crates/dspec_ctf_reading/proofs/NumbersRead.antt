-- A number that was written in so many bytes is read from them.
use Rattle.std.proofs.Common.{◌≡◌, ◌<◌, ◌+◌, ◌*◌, ◌/◌, ◌%◌, ◌^◌, ℕ, List, ◌++◌, Some, ap, ◌∙◌, arith}
use Rattle.std.proofs.lemmas.{Bool.Decides.nat_tests, Nat.from_le_bytes-to_le_bytes_2, Nat.from_le_bytes-to_le_bytes_4, Nat.from_le_bytes-to_le_bytes_8}
use Rattle.dspec_ctf_reading.specs.Words.{width, little_endian, read_number, Field, One, Two, Four, Eight}

-- nested sums are those of from_le_bytes
nested-2 : (a b : ℕ) → a + 256 * (b + 256 * 0) ≡ a + b * 256
nested-2 a b = omega arith

pub nested-4 : (a b c d : ℕ) → a + 256 * (b + 256 * (c + 256 * (d + 256 * 0))) ≡ a + b * 256 + c * 256 ^ 2 + d * 256 ^ 3
nested-4 a b c d = omega arith

pub nested-8 : (a b c d e f g h : ℕ) → a + 256 * (b + 256 * (c + 256 * (d + 256 * (e + 256 * (f + 256 * (g + 256 * (h + 256 * 0)))))))
    ≡ a + b * 256 + c * 256 ^ 2 + d * 256 ^ 3 + e * 256 ^ 4 + f * 256 ^ 5 + g * 256 ^ 6 + h * 256 ^ 7
nested-8 a b c d e f g h = omega arith

pub number-back : (f : Field) (v : ℕ) (rest : List ℕ) → v < 256 ^ width f → read_number (width f) (little_endian (width f) v ++ rest) ≡ Some (v, rest)
number-back One v rest low = ap (λ n. Some (n, rest)) (omega (arith, low))
number-back Two v rest low = ap (λ n. Some (n, rest)) (nested-2 (v % 256) (v / 256 % 256) ∙ from_le_bytes-to_le_bytes_2 v low)
number-back Four v rest low =
    ap (λ n. Some (n, rest)) (nested-4 (v % 256) (v / 256 % 256) (v / 256 ^ 2 % 256) (v / 256 ^ 3 % 256) ∙ from_le_bytes-to_le_bytes_4 v low)
number-back Eight v rest low = grind (arith, nat_tests, nested-8, from_le_bytes-to_le_bytes_8)
