-- What is left of the CPUs of a closed session, one CPU after another.
use Rattle.std.proofs.Common.{◌≡◌, ℕ, zero, suc, ◌+◌, ◌<◌, List, [], ◌∷◌, drop, length, Some, refl, sym, ap, ◌∙◌, arith}
use Rattle.std.specs.Prelude.{slice_get, option_copied}
use Rattle.dspec.specs.{Words.Left, Words.left_shown, Words.lefts_from, declared.closing.ClosedCpu.ClosedCpu}

-- after the first n there is one, and the others
one_more : (xs : List Left) (n : ℕ) → n < length xs → (l : Left) × (slice_get xs n ≡ Some l) × (drop n xs ≡ l ∷ drop (suc n) xs)
one_more [] n lt = absurd (omega arith)
one_more (x ∷ xs) zero lt = (x, refl, refl)
one_more (x ∷ xs) (suc n) lt = one_more xs n (omega arith)

module _ (xs : List Left) (n : ℕ) (cpu : ClosedCpu) (within : n < length xs) (number : cpu.number ≡ n)
    (sealed : (l : Left) → slice_get xs n ≡ Some l → option_copied cpu.sealed ≡ l.rest)
    (last : (l : Left) → slice_get xs n ≡ Some l → cpu.last.now ≡ l.last) (report : (l : Left) → slice_get xs n ≡ Some l → cpu.report.now ≡ l.report) where
  -- what is left from there on is what the CPU shows, and what is left after it
  pub shown_first : lefts_from n (drop n xs) ≡ left_shown cpu ∷ lefts_from (n + 1) (drop (n + 1) xs)
  shown_first =
      let (l, there, is) = one_more xs n within in
      let next : suc n ≡ n + 1 = omega arith in
      let shown : left_shown cpu ≡ record { number = n; left = l } = λ i. record { number = number i; left = record { rest = sealed l there i; last = last l there i; report = report l there i } } in
      ap (lefts_from n) (is ∙ ap (λ k. l ∷ drop k xs) next) ∙ ap (λ x. x ∷ lefts_from (n + 1) (drop (n + 1) xs)) (sym shown)

  -- so there are fewer after it
  pub fewer : length (lefts_from (n + 1) (drop (n + 1) xs)) < length (lefts_from n (drop n xs))
  fewer = let one = ap length shown_first in omega arith
