-- What stands in a text is found there.
use Rattle.std.proofs.Common.{◌≡◌, ◌<◌, ◌^◌, ◌++◌, ℕ, Bool, true, cond, List, [], ◌∷◌, length, Some, refl, ap, ◌∙◌, arith, rules}
use Rattle.std.proofs.lemmas.{Bool.ne_eqb, Bool.and_parts, Bool.and_from, Bool.cond-false, Bool.Decides.nat_tests, Fmt.digits_decimal, Fmt.digits_value-decimal, Fmt.decimal_nonempty}
use Rattle.std.proofs.lemmas.{Str.Parse.IsNumeralModel, Str.Parse.numerals_by_fold}
use Rattle.std.specs.{List.list_all, Prelude.decimal}
use Rattle.dspec_ctf_reading.specs.Words.{run_of, read_run, is_digit, digits_number, read_decimal}

-- a run ends where what follows it doesn't begin with another byte of it
pub Ends : (ℕ → Bool) → List ℕ → Type 0
Ends test rest = run_of test rest ≡ ([], rest)

run-back : (test : ℕ → Bool) (xs rest : List ℕ) → list_all test xs ≡ true → run_of test rest ≡ ([], rest) → run_of test (xs ++ rest) ≡ (xs, rest)
run-back test [] rest pass ends = ends
run-back test (x ∷ xs) rest pass ends =
    let parts = and_parts (test x) (list_all test xs) pass in
    let more : List ℕ × List ℕ = run_of test (xs ++ rest) in
    ap (λ b. cond b (x ∷ more.0, more.1) ([], x ∷ (xs ++ rest))) parts.0 ∙ ap (λ p. (x ∷ p.0, p.1)) (run-back test xs rest parts.1 ends)

pub read-run-back : (test : ℕ → Bool) (xs rest : List ℕ) → list_all test xs ≡ true → 0 < length xs → run_of test rest ≡ ([], rest) → read_run test (xs ++ rest) ≡ Some (xs, rest)
read-run-back test xs rest pass some ends = grind (arith, nat_tests, run-back, cond-false, ne_eqb)

-- numbers
own : IsNumeralModel (λ ds. list_all is_digit ds ≡ true) (digits_number 0)
unfolding is_digit
own = numerals_by_fold _ (search rules) digits_number (search rules)

pub decimal-digits : (n : ℕ) → n < 2 ^ 64 → list_all is_digit (decimal n) ≡ true
decimal-digits n low = digits_decimal own n low

pub decimal-back : (n : ℕ) (rest : List ℕ) → n < 2 ^ 64 → run_of is_digit rest ≡ ([], rest) → read_decimal (decimal n ++ rest) ≡ Some (n, rest)
decimal-back n rest low ends =
    grind (arith, nat_tests, read-run-back is_digit (decimal n) rest (decimal-digits n low) (decimal_nonempty n low) ends, decimal-digits n low, decimal_nonempty n low, digits_value-decimal own n low)

-- tests that pass more
pub list_all-weaker : (test other : ℕ → Bool) → ((b : ℕ) → test b ≡ true → other b ≡ true) → (xs : List ℕ) → list_all test xs ≡ true → list_all other xs ≡ true
list_all-weaker test other each [] pass = refl
list_all-weaker test other each (x ∷ xs) pass =
    let parts = and_parts (test x) (list_all test xs) pass in
    and_from (other x) (list_all other xs) (each x parts.0) (list_all-weaker test other each xs parts.1)
