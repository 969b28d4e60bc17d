-- Padding words in bytes: four zero bytes are an EPID of 0.
use Rattle.std.proofs.Common.{◌≡◌, ◌+◌, ◌-◌, ◌%◌, ◌≤◌, ◌<◌, ℕ, true, Option, Some, None, List, length, take, drop, get_or, ap, arith, ⊎_elim, nat_lt, nat_eq, if◌then◌else◌}
use Rattle.std.proofs.lemmas.{Bool.cases_lt, Bool.lt-ltb, Bool.le-ltb, Bool.Decides.nat_tests, Bool.Decides.eqb_tells, List.length-take-le, List.get_or-take, List.get_or_past, List.take-append-drop}
use Rattle.std.proofs.lemmas.{List.drop-drop, List.take_rest, Nat.le_bytes_4}
use Rattle.std.specs.Option.{option_eq}
use Rattle.dspec_buffer.specs.Words.{front_epid, padding_word, SkipsGap}
use Rattle.dspec_buffer.proofs.Texts.{front_epid-take}

-- what the EPID at the front of bytes is, where there is one
pub epid_named : (xs : List ℕ) (e : ℕ) → Some e ≡ (if nat_lt (length xs) 4 then None else Some (front_epid xs)) → (4 ≤ length xs) × (e ≡ front_epid xs)
epid_named xs e h = grind (arith, nat_tests, lt-ltb, le-ltb, cases_lt)

is_some_zero : (o : Option ℕ) → true ≡ option_eq nat_eq o (Some 0) → o ≡ Some 0
is_some_zero None h = cc
is_some_zero (Some e) h = ⊎_elim (λ p. ap Some p.1) (λ p. let k = p.0 in cc) (eqb_tells e 0)

-- an EPID of 0 is a padding word
zeros : (xs : List ℕ) → 4 ≤ length xs → ((i : ℕ) → get_or xs i 0 < 256) → front_epid xs ≡ 0 → take 4 xs ≡ padding_word
zeros xs long bytes e = grind (arith, nat_tests, length-take-le, get_or-take, get_or_past, cases_lt, front_epid-take, le_bytes_4)

-- a padding word that is skipped
pub skips_word : (b : List ℕ) (o : ℕ) (e : Option ℕ) → o % 8 ≡ 4 → 4 < length b - o → ((i : ℕ) → get_or b i 0 < 256)
    → e ≡ (if nat_lt (length (take (length b - o) (drop o b))) 4 then None else Some (front_epid (take (length b - o) (drop o b)))) → true ≡ option_eq nat_eq e (Some 0) → SkipsGap b o (o + 4)
skips_word b o e at long bytes is zero = grind (arith, nat_tests, take_rest b o, is_some_zero e zero, take-append-drop 4 (drop o b), drop-drop 4 o b)
