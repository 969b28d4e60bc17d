-- Sums over the first CPUs, by a number of each.
use Rattle.std.proofs.Common.{◌≡◌, ◌<◌, ◌≤◌, ◌+◌, ℕ, zero, suc, inl, inr, List, [], ◌∷◌, Some, refl, sym, subst, arith, length, slice_get}
use Rattle.std.proofs.lemmas.Bool.{cases_eq, cases_lt, Decides.nat_tests}
use Rattle.dspec_trace_reading.specs.Words.{Left, all_counted, lost_of, missed_in}
use Rattle.dspec_ctf_reading.proofs.AllowedWords.{get-some}

-- of each the sum of two others
pub both_of : (f g h : ℕ → ℕ) (n : ℕ) → ((c : ℕ) → c < n → h c ≡ f c + g c) → lost_of h n ≡ lost_of f n + lost_of g n
both_of f g h zero each = refl
both_of f g h (suc n) each = omega (arith, each n (omega arith), both_of f g h n (λ c lt. each c (omega arith)))

pub none_of : (f : ℕ → ℕ) (n : ℕ) → ((c : ℕ) → c < n → f c ≡ 0) → lost_of f n ≡ 0
none_of f zero each = refl
none_of f (suc n) each = omega (arith, each n (omega arith), none_of f n (λ c lt. each c (omega arith)))

same_of : (f g : ℕ → ℕ) (n : ℕ) → ((c : ℕ) → c < n → g c ≡ f c) → lost_of g n ≡ lost_of f n
same_of f g zero each = refl
same_of f g (suc n) each = omega (arith, each n (omega arith), same_of f g n (λ c lt. each c (omega arith)))

one_last : (f g : ℕ → ℕ) (i k n : ℕ) → i ≡ n → g i ≡ f i + k → ((c : ℕ) → (i ≡ c → ⊥) → g c ≡ f c) → lost_of g (suc n) ≡ lost_of f (suc n) + k
one_last f g i k n same here others = grind (arith, nat_tests, same_of)

-- one of them has so many more, and the others as many
pub one_more : (f g : ℕ → ℕ) (i k n : ℕ) → i < n → g i ≡ f i + k → ((c : ℕ) → (i ≡ c → ⊥) → g c ≡ f c) → lost_of g n ≡ lost_of f n + k
one_more f g i k zero low here others = absurd (omega (arith, low))
one_more f g i k (suc n) low here others = elim (cases_eq i n) [
  | inl same ↦ one_last f g i k n same here others
  | inr apart ↦ omega (arith, others n apart, one_more f g i k n (omega (arith, low, apart)) here others)
]

-- none has more than all
pub within_of : (f : ℕ → ℕ) (i n : ℕ) → i < n → f i ≤ lost_of f n
within_of f i zero low = absurd (omega (arith, low))
within_of f i (suc n) low = elim (cases_eq i n) [
  | inl same ↦ subst (λ c. f i ≤ f c + lost_of f n) same (omega arith)
  | inr apart ↦ omega (arith, within_of f i n (omega (arith, low, apart)))
]

-- those from some number on have none
pub rest_none : (f : ℕ → ℕ) (n m : ℕ) → n ≤ m → ((c : ℕ) → n ≤ c → c < m → f c ≡ 0) → lost_of f m ≡ lost_of f n
rest_none f n zero few none = grind (arith, nat_tests)
rest_none f n (suc m) few none = elim (cases_eq n (suc m)) [
  | inl same ↦ subst (λ k. lost_of f (suc m) ≡ lost_of f k) (sym same) refl
  | inr apart ↦
      let less : n ≤ m = omega (arith, few, apart) in
      omega (arith, none m less (omega arith), rest_none f n m less (λ c from below. none c from (omega (arith, below))))
]

first_of : (f : ℕ → ℕ) (n : ℕ) → lost_of f (suc n) ≡ f 0 + lost_of (λ c. f (suc c)) n
first_of f zero = omega arith
first_of f (suc n) = omega (arith, first_of f n)

-- where each has no more than a report counts, all have no more than all reports
pub all_within : (ls : List Left) (f : ℕ → ℕ) → ((c : ℕ) (l : Left) → slice_get ls c ≡ Some l → f c ≤ l.report.accepted + missed_in l.report) → lost_of f (length ls) ≤ all_counted ls
all_within [] f each = omega arith
all_within (l ∷ ls) f each = omega (arith, each 0 l refl, first_of f (length ls), all_within ls (λ c. f (suc c)) (λ c x at. each (suc c) x at))

-- no report counts more than all
pub one_within : (ls : List Left) (c : ℕ) (l : Left) → slice_get ls c ≡ Some l → l.report.accepted + missed_in l.report ≤ all_counted ls
one_within [] c l at = absurd (cc (at))
one_within (x ∷ ls) zero l at = grind (arith, nat_tests)
one_within (x ∷ ls) (suc c) l at = omega (arith, one_within ls c l at)

-- of CPUs that all have numbers below 64 there are no more
pub most : (ls : List Left) → ((c : ℕ) (l : Left) → slice_get ls c ≡ Some l → c < 64) → length ls ≤ 64
most ls low = elim (cases_lt 64 (length ls)) [
  | inl more ↦ let found = get-some ls 64 more in absurd (omega (arith, low 64 found.0 found.1))
  | inr few ↦ few
]
