-- The bytes of a number that is put together of a low part and a rest, in bytes.
use Rattle.std.proofs.Common.{◌≡◌, ◌≤◌, ◌<◌, ◌+◌, ◌*◌, ◌/◌, ◌%◌, ◌^◌, ◌++◌, ℕ, zero, suc, ◌∷◌, take, replicate, refl, sym, ◌∙◌, ap, arith}
use Rattle.std.proofs.Math.Nat.{one-le-pow, pow-suc, mul_assoc, mul_comm, div-div-eq-div-mul, mul-div_cancel}
use Rattle.std.proofs.lemmas.{Bool.Decides.nat_tests, Nat.pow-add, Nat.div-mul-add}
use Rattle.std.specs.Int.{byte_at, bytes_low_first}
use Rattle.dspec_record.specs.Words.{little_endian}

pub pow_pos256 : (k : ℕ) → zero < 256 ^ k
pow_pos256 k = one-le-pow k 256 (omega arith)

pub pow-add256 : (i j k : ℕ) → i + j ≡ k → 256 ^ i * 256 ^ j ≡ 256 ^ k
pow-add256 i j k is = sym (pow-add 256 i j) ∙ ap (λ n. 256 ^ n) is

pub div-more : (i j k n : ℕ) → i + j ≡ k → n / 256 ^ i / 256 ^ j ≡ n / 256 ^ k
div-more i j k n is = div-div-eq-div-mul n (256 ^ i) (256 ^ j) ∙ ap (λ p. n / p) (pow-add256 i j k is)

pub shifted-back : (k n : ℕ) → n * 256 ^ k / 256 ^ k ≡ n
shifted-back k n = mul-div_cancel n (pow_pos256 k)

pow-first : (k : ℕ) → 256 ^ suc k ≡ 256 * 256 ^ k
pow-first k = pow-suc 256 k ∙ mul_comm (256 ^ k) 256

-- a byte above the lowest is one of what is left without the lowest
byte_at-above : (i n : ℕ) → byte_at (suc i) n ≡ byte_at i (n / 256)
byte_at-above zero n = refl
byte_at-above (suc i) n =
    ap (λ p. n / p % 256) (pow-first (suc i)) ∙ ap (λ m. m % 256) (sym (div-div-eq-div-mul n 256 (256 ^ suc i)))

bytes-above : (i k n : ℕ) → bytes_low_first (suc i) k n ≡ bytes_low_first i k (n / 256)
bytes-above i zero n = refl
bytes-above i (suc k) n = grind (arith, nat_tests, bytes-above (suc i) k n, byte_at-above)

pub little_endian-more : (k n : ℕ) → little_endian (suc k) n ≡ n % 256 ∷ little_endian k (n / 256)
little_endian-more k n = ap (λ bs. n % 256 ∷ bs) (bytes-above 0 k n)

pub little_endian-zero : (k : ℕ) → little_endian k 0 ≡ replicate k 0
little_endian-zero zero = refl
little_endian-zero (suc k) = little_endian-more k 0 ∙ ap (λ bs. 0 ∷ bs) (little_endian-zero k)

-- what is above counts for none of the low bytes
pub little_endian-low : (k high low : ℕ) → little_endian k (high * 256 ^ k + low) ≡ little_endian k low
little_endian-low zero high low = refl
little_endian-low (suc k) high low =
    let n : ℕ = high * 256 ^ suc k + low in
    let q : ℕ = high * 256 ^ k in
    let whole : high * 256 ^ suc k ≡ q * 256 = ap (λ p. high * p) (pow-suc 256 k) ∙ sym (mul_assoc high (256 ^ k) 256) in
    let first : n % 256 ≡ low % 256 = omega (arith, whole) in
    let left : n / 256 ≡ q + low / 256 = omega (arith, whole) in
    little_endian-more k n
    ∙ ap (λ b. b ∷ little_endian k (n / 256)) first
    ∙ ap (λ m. low % 256 ∷ little_endian k m) left
    ∙ ap (λ bs. low % 256 ∷ bs) (little_endian-low k high (low / 256))
    ∙ sym (little_endian-more k low)

-- so many bytes, and those of the rest
pub little_endian-append : (j k n : ℕ) → little_endian (j + k) n ≡ little_endian j n ++ little_endian k (n / 256 ^ j)
little_endian-append zero k n = grind (arith, nat_tests)
little_endian-append (suc j) k n =
    let count : suc j + k ≡ suc (j + k) = omega arith in
    let left : n / 256 / 256 ^ j ≡ n / 256 ^ suc j =
    div-div-eq-div-mul n 256 (256 ^ j) ∙ ap (λ p. n / p) (sym (pow-first j)) in
    ap (λ m. little_endian m n) count
    ∙ little_endian-more (j + k) n
    ∙ ap (λ bs. n % 256 ∷ bs) (little_endian-append j k (n / 256))
    ∙ ap (λ m. n % 256 ∷ (little_endian j (n / 256) ++ little_endian k m)) left
    ∙ ap (λ bs. bs ++ little_endian k (n / 256 ^ suc j)) (sym (little_endian-more j n))

pub little_endian-parts : (j k high low : ℕ) → low < 256 ^ j → little_endian (j + k) (high * 256 ^ j + low) ≡ little_endian j low ++ little_endian k high
little_endian-parts j k high low below = grind (arith, nat_tests, little_endian-append, little_endian-low, div-mul-add)

take-bytes : (i n k x : ℕ) → n ≤ k → take n (bytes_low_first i k x) ≡ bytes_low_first i n x
take-bytes i zero k x within = refl
take-bytes i (suc n) zero x within = absurd (omega arith)
take-bytes i (suc n) (suc k) x within = ap (λ bs. byte_at i x ∷ bs) (take-bytes (suc i) n k x (omega arith))

pub take-little_endian : (n k x : ℕ) → n ≤ k → take n (little_endian k x) ≡ little_endian n x
take-little_endian n k x within = take-bytes 0 n k x within
