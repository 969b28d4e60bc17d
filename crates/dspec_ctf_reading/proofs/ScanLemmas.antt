-- Runs of bytes, fixed texts and numbers, as loops over bytes find them.
use Rattle.std.proofs.Common.{◌≡◌, ◌≤◌, ◌<◌, ◌+◌, ◌*◌, ◌-◌, ℕ, zero, suc, nat_eq, Bool, true, false, cond, List, [], ◌∷◌, length, take, drop, get_or, Option, Some, None, option_map, refl, ap, sym}
use Rattle.std.proofs.Common.{◌∙◌, arith, Bor, MatchOption, add-one}
use Rattle.std.proofs.lemmas.{Bool.and_parts, Bool.and_from, Bool.Decides.nat_tests, List.Sums.AllPass-from_list_all, Str.IsUtf8-from_ascii, Str.Ascii.IsAscii-from_all}
use Rattle.std.specs.{Cmp.Lexicographic.pointwise, List.list_all, Str.IsUtf8}
use Rattle.dspec_ctf_reading.specs.Words.{rest_past, run_of, digits_number, is_digit, is_word, is_quoted, test_of}
use Rattle.dspec_ctf_reading.specs.declared.scan.Set.{Set, TheVariants.Digits, TheVariants.Word, TheVariants.Quoted}

-- fixed texts
rest_past-there : (text bytes : List ℕ) → pointwise nat_eq (take (length text) bytes) text ≡ true → Some (drop (length text) bytes) ≡ rest_past text bytes
rest_past-there [] bytes same = refl
rest_past-there (c ∷ text) [] same = absurd (cc)
rest_past-there (c ∷ text) (b ∷ bytes) same =
    let parts = and_parts (nat_eq b c) (pointwise nat_eq (take (length text) bytes) text) same in
    rest_past-there text bytes parts.1 ∙ sym (ap (λ t. cond t (rest_past text bytes) None) parts.0)

rest_past-other : (text bytes : List ℕ) → pointwise nat_eq (take (length text) bytes) text ≡ false → None ≡ rest_past text bytes
rest_past-other [] bytes other = absurd (cc)
rest_past-other (c ∷ text) [] other = refl
rest_past-other (c ∷ text) (b ∷ bytes) other = grind (arith, nat_tests, rest_past-other text bytes)

pub after-told : (text bytes : List ℕ) (r : Option (Bor (List ℕ))) → MatchOption r (pointwise nat_eq (take (length text) bytes) text ≡ false)
    (λ x. (pointwise nat_eq (take (length text) bytes) text ≡ true) × (x.now ≡ drop (length text) bytes) × (length x.now + length text ≡ length bytes))
    → option_map (λ rest. rest.now) r ≡ rest_past text bytes
after-told text bytes None told = rest_past-other text bytes told
after-told text bytes (Some x) told = ap Some told.1 ∙ rest_past-there text bytes told.0

-- runs
pub run-ends : (test : ℕ → Bool) (n : ℕ) (bytes : List ℕ) → n ≤ length bytes → list_all test (take n bytes) ≡ true → (n < length bytes → test (get_or bytes n 0) ≡ false)
    → run_of test bytes ≡ (take n bytes, drop n bytes)
run-ends test zero [] within pass stops = refl
run-ends test zero (b ∷ bytes) within pass stops = ap (λ t. cond t (b ∷ (run_of test bytes).0, (run_of test bytes).1) ([], b ∷ bytes)) (stops (omega arith))
run-ends test (suc n) [] within pass stops = absurd (omega (arith, within))
run-ends test (suc n) (b ∷ bytes) within pass stops =
    let parts = and_parts (test b) (list_all test (take n bytes)) pass in
    ap (λ t. cond t (b ∷ (run_of test bytes).0, (run_of test bytes).1) ([], b ∷ bytes)) parts.0
    ∙ ap (λ p. (b ∷ p.0, p.1)) (run-ends test n bytes (omega (arith, within)) parts.1 (λ below. stops (omega (arith, below))))

run-passes : (test : ℕ → Bool) (bytes : List ℕ) → list_all test (run_of test bytes).0 ≡ true
run-passes test [] = refl
run-passes test (b ∷ bytes) = grind (arith, nat_tests, run-passes test bytes, and_from)

-- a run of these sets is text
below_ascii : (set : Set) (byte : ℕ) → test_of set byte ≡ true → byte < 128
unfolding is_digit is_word is_quoted
below_ascii Digits byte e = grind (arith, nat_tests)
below_ascii Word byte e = grind (arith, nat_tests)
below_ascii Quoted byte e = grind (arith, nat_tests)

pub IsUtf8-run : (set : Set) (bytes front rest : List ℕ) → run_of (test_of set) bytes ≡ (front, rest) → IsUtf8 front
IsUtf8-run set bytes front rest is =
    let pass : list_all (test_of set) front ≡ true = ap (λ p. list_all (test_of set) p.0) (sym is) ∙ run-passes (test_of set) bytes in
    IsUtf8-from_ascii front (IsAscii-from_all front (λ k d below. below_ascii set (get_or front k d) (AllPass-from_list_all (test_of set) front pass k d below)))

-- numbers
pub digits_number-grows : (n : ℕ) (bs : List ℕ) → n ≤ digits_number n bs
digits_number-grows n [] = omega arith
digits_number-grows n (b ∷ bs) = omega (arith, digits_number-grows (10 * n + (b - 48)) bs)

step-suc : (n i : ℕ) (bs : List ℕ) → i < length bs → digits_number n (drop i bs) ≡ digits_number (10 * n + (get_or bs i 0 - 48)) (drop (suc i) bs)
step-suc n i [] below = absurd (omega (arith, below))
step-suc n zero (b ∷ bs) below = refl
step-suc n (suc i) (b ∷ bs) below = step-suc n i bs (omega (arith, below))

pub digits_number-step : (n i : ℕ) (bs : List ℕ) → i < length bs → digits_number n (drop i bs) ≡ digits_number (10 * n + (get_or bs i 0 - 48)) (drop (i + 1) bs)
digits_number-step n i bs below = rw add-one (step-suc n i bs below)
