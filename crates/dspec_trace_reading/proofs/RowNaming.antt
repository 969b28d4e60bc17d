-- Each file of a CPU by time has a name of its own, and none is the metadata.
use Rattle.std.proofs.Common.{◌≡◌, ◌≢◌, ◌<◌, ◌++◌, ℕ, true, List, [], ◌∷◌, refl, ap, sym, ◌∙◌, arith, drop, slice_index, codes, decimal}
use Rattle.std.proofs.lemmas.{Bool.and_parts, Bool.Decides.nat_tests, Fmt.decimal_injective}
use Rattle.std.specs.List.{list_all}
use Rattle.dspec_trace_reading.specs.Words.{is_digit, row_name}
use Rattle.dspec_ctf_reading.proofs.Scanning.{decimal-digits}

-- the underscore is no digit
no_digit : is_digit 95 ≡ true → ⊥
unfolding is_digit
no_digit e = absurd (cc (e))

-- so digits, an underscore and what stands after it are parted in one way
parted : (xs ys us vs : List ℕ) → list_all is_digit xs ≡ true → list_all is_digit ys ≡ true → xs ++ 95 ∷ us ≡ ys ++ 95 ∷ vs → (xs ≡ ys) × (us ≡ vs)
parted [] [] us vs p q e = (refl, ap (λ (zs : List ℕ). drop 1 zs) e)
parted [] (y ∷ ys) us vs p q e =
    let head : 95 ≡ y = ap (λ (zs : List ℕ). slice_index zs 0) e in
    absurd (no_digit (ap is_digit head ∙ (and_parts (is_digit y) (list_all is_digit ys) q).0))
parted (x ∷ xs) [] us vs p q e =
    let head : 95 ≡ x = ap (λ (zs : List ℕ). slice_index zs 0) (sym e) in
    absurd (no_digit (ap is_digit head ∙ (and_parts (is_digit x) (list_all is_digit xs) p).0))
parted (x ∷ xs) (y ∷ ys) us vs p q e =
    let head : x ≡ y = ap (λ (zs : List ℕ). slice_index zs 0) e in
    let rest = parted xs ys us vs (and_parts (is_digit x) (list_all is_digit xs) p).1 (and_parts (is_digit y) (list_all is_digit ys) q).1 (ap (λ (zs : List ℕ). drop 1 zs) e) in
    (cc (head, rest.0), rest.1)

named_apart : (a b f g : ℕ) → a < 64 → b < 64 → row_name a f ≡ row_name b g → (decimal a ≡ decimal b) × (decimal f ≡ decimal g)
named_apart a b f g few other e =
    parted (decimal a) (decimal b) (decimal f) (decimal g) (decimal-digits a (omega (arith, few))) (decimal-digits b (omega (arith, other))) (ap (λ (xs : List ℕ). drop 4 xs) e)

-- of two CPUs no file is the same
pub cpus_differ : (a b f g : ℕ) → a < 64 → b < 64 → a ≢ b → row_name a f ≢ row_name b g
cpus_differ a b f g few other apart e = apart (decimal_injective a b (omega (arith, few)) (omega (arith, other)) (named_apart a b f g few other e).0)

-- nor are two of one CPU
pub files_differ : (c f g : ℕ) → c < 64 → f < 64 → g < 64 → f ≢ g → row_name c f ≢ row_name c g
files_differ c f g low few other apart e = apart (decimal_injective f g (omega (arith, few)) (omega (arith, other)) (named_apart c c f g low low e).1)

pub row_not_metadata : (c f : ℕ) → row_name c f ≢ codes "metadata"
row_not_metadata c f = grind (arith, nat_tests)

-- each has a name
pub row_named : (c f : ℕ) → row_name c f ≢ []
row_named c f = grind (arith, nat_tests)
