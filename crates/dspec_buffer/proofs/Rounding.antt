-- Offsets are whole words, and alignments four or eight.
use Rattle.std.proofs.Common.{◌≡◌, ◌≢◌, ◌+◌, ◌-◌, ◌%◌, ◌⊎◌, ℕ, inl, inr, ap, ◌∙◌, arith}
use Rattle.std.proofs.lemmas.{Bool.Decides.nat_tests, Nat.and_le_r, Nat.and_mod}
use Rattle.std.specs.Int.Bits.{bit_and, and_zero_r}
use Rattle.dspec_buffer.specs.Words.{rounded_up}

-- what rounding up does: nothing, or one word up to a multiple of eight
pub record IsRounded (o a p : ℕ) : Type 0 where
  pub multiple : p % a ≡ 0
  pub step : (p ≡ o) ⊎ ((p ≡ o + 4) × (o % 8 ≡ 4))
  pub stays : o % a ≡ 0 → p ≡ o
  pub moves : o % a ≢ 0 → p ≡ o + 4
  pub words : p % 4 ≡ 0

rounded_four : (o : ℕ) → o % 4 ≡ 0 → IsRounded o 4 (rounded_up o 4)
rounded_four o h = grind (arith, nat_tests)

rounded_eight : (o : ℕ) → o % 4 ≡ 0 → IsRounded o 8 (rounded_up o 8)
rounded_eight o h = grind (arith, nat_tests)

pub rounded : (o a : ℕ) → o % 4 ≡ 0 → (a ≡ 4) ⊎ (a ≡ 8) → IsRounded o a (rounded_up o a)
rounded o a h (inl e) = rw e (rounded_four o h)
rounded o a h (inr e) = rw e (rounded_eight o h)

-- the bit of a whole word tells its distance from the multiple of eight below it
word-bit : (o : ℕ) → o % 4 ≡ 0 → bit_and o 4 ≡ o % 8
word-bit o h = grind (arith, nat_tests, and_le_r o 4, and_mod o 4 3)

-- so that rounding up adds the bit that the alignment forbids
pub rounded-bit : (o a : ℕ) → o % 4 ≡ 0 → (a ≡ 4) ⊎ (a ≡ 8) → o + bit_and o (a - 4) ≡ rounded_up o a
rounded-bit o a h (inl e) =
    let none : bit_and o (a - 4) ≡ 0 = ap (λ n. bit_and o (n - 4)) e ∙ and_zero_r o in
    let up : rounded_up o a ≡ rounded_up o 4 = ap (rounded_up o) e in
    let stays : rounded_up o 4 ≡ o = omega arith in
    omega arith
rounded-bit o a h (inr e) = grind (arith, nat_tests, word-bit)
