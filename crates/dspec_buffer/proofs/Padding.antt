-- Padding words, and what a reservation takes.
use Rattle.std.proofs.Common.{◌≡◌, ◌≢◌, ◌+◌, ◌-◌, ◌%◌, ◌≤◌, ◌⊎◌, ℕ, List, [], length, replicate, inl, inr, refl, arith, ⊎_elim}
use Rattle.std.proofs.lemmas.Bool.Decides.{nat_tests, eqb_tells}
use Rattle.dspec_buffer.specs.Words.{rounded_up, reserved, padding, padding_word, padded, IsGap}
use Rattle.dspec_buffer.proofs.Rounding.{IsRounded, rounded}

padding_cases : (o a : ℕ) → ((o % a ≡ 0) × (padding o a ≡ [])) ⊎ ((o % a ≢ 0) × (padding o a ≡ padding_word))
padding_cases o a =
    ⊎_elim (λ p. inl (p.1, rw p.0 refl)) (λ p. inr (p.1, rw p.0 refl)) (eqb_tells (o % a) 0)

-- what stands between an offset and the next multiple of an alignment
pub record IsPadding (o a : ℕ) (gap : List ℕ) : Type 0 where
  pub is_gap : IsGap o gap
  pub reaches : o + length gap ≡ rounded_up o a
  pub aligned : (o + length gap) % a ≡ 0
  pub zeros : gap ≡ replicate (rounded_up o a - o) 0

padding_none : (o a : ℕ) → IsRounded o a (rounded_up o a) → o % a ≡ 0 → IsPadding o a []
padding_none o a d e = grind (arith, nat_tests)

padding_one : (o a : ℕ) → IsRounded o a (rounded_up o a) → o % a ≢ 0 → IsPadding o a padding_word
padding_one o a d e = grind (arith, nat_tests)

pub padding_facts : (o a : ℕ) → o % 4 ≡ 0 → (a ≡ 4) ⊎ (a ≡ 8) → IsPadding o a (padding o a)
padding_facts o a h k =
    ⊎_elim (λ p. rw p.1 (padding_none o a (rounded o a h k) p.0)) (λ p. rw p.1 (padding_one o a (rounded o a h k) p.0)) (padding_cases o a)

-- a reservation of some bytes goes after the padding; one of none goes nowhere
pub reserved_some : (o a n : ℕ) → n ≢ 0 → reserved o a n ≡ rounded_up o a + n
reserved_some o a n h = ⊎_elim (λ p. absurd (h p.1)) (λ p. rw p.0 refl) (eqb_tells n 0)

pub reserved_none : (o a n : ℕ) → n ≡ 0 → reserved o a n ≡ o
reserved_none o a n h = rw h refl

pub length-padded : (o a : ℕ) (bs : List ℕ) → o % 4 ≡ 0 → (a ≡ 4) ⊎ (a ≡ 8) → o + length (padded o a bs) ≡ reserved o a (length bs)
length-padded = grind (arith, nat_tests, padding_facts, reserved_some)

-- a reservation keeps whole words, and takes its bytes
pub record IsReserved (o n e : ℕ) : Type 0 where
  pub words : e % 4 ≡ 0
  pub takes : o + n ≤ e

pub reserved_facts : (o a n : ℕ) → o % 4 ≡ 0 → (a ≡ 4) ⊎ (a ≡ 8) → n % 4 ≡ 0 → IsReserved o n (reserved o a n)
reserved_facts o a n h k w = grind (arith, nat_tests, rounded, reserved_none, reserved_some, eqb_tells)
