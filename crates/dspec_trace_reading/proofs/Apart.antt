-- Batches by the CPUs that they came from, where it is known how many CPUs there are.
use Rattle.std.proofs.Common.{◌≡◌, ◌<◌, ◌≤◌, ◌+◌, ◌==◌, ℕ, Bool, true, false, if◌then◌else◌, List, [], ◌∷◌, refl, arith, length}
use Rattle.std.proofs.lemmas.{Bool.eq-eqb, Bool.ne_eqb, List.Elements.All-cons, List.Elements.All-head, List.Elements.All-nil, List.Elements.All-tail}
use Rattle.std.specs.List.{AllByRecursion}
use Rattle.dspec_trace_reading.specs.Words.{AreFrom, Passed, passed_from, GetsTellings, HaveNumbers, drops_carried, lost_of, Batch, Left}
use Rattle.dspec_trace_reading.proofs.{Summing.none_of, Summing.one_more, Told.told_of}

-- what the end of a trace tells is of the CPUs that are left
pub told_from : {K : Type 0} (gets : K → Batch → K → Type 0) (n c : ℕ) (ls : List Left) (k l : K) (t : GetsTellings gets c ls k l) → n ≡ c + length ls → AreFrom n (told_of gets c ls k l t)
told_from gets n c [] k l e on = All-nil (λ (x : Passed). x.from < n)
told_from gets n c (x ∷ xs) k l (m, one, rest) on =
    All-cons (λ (y : Passed). y.from < n) (record { from = c; batch = one.batch }) (told_of gets (c + 1) xs m l rest) (omega (arith, on))
    (told_from gets n (c + 1) xs m l rest (omega (arith, on)))

-- the drops of all batches
abbrev pub all_drops : List Passed → ℕ
all_drops [] = 0
all_drops (x ∷ xs) = x.batch.drops + all_drops xs

here_more : (q : Bool) (b : Batch) (bs : List Batch) → q ≡ true → drops_carried (if q then b ∷ bs else bs) ≡ drops_carried bs + b.drops
here_more true b bs is = omega arith
here_more false b bs is = absurd (cc (is))

there_same : (q : Bool) (b : Batch) (bs : List Batch) → q ≡ false → drops_carried (if q then b ∷ bs else bs) ≡ drops_carried bs
there_same true b bs is = absurd (cc (is))
there_same false b bs is = refl

-- they are those of each CPU's batches together
pub drops_apart : (n : ℕ) (xs : List Passed) → AreFrom n xs → lost_of (λ c. drops_carried (passed_from c xs)) n ≡ all_drops xs
drops_apart n [] from = none_of (λ c. 0) n (λ c lt. refl)
drops_apart n (x ∷ xs) from =
    let below : x.from < n = All-head (λ (y : Passed). y.from < n) x xs from in
    let one = one_more (λ c. drops_carried (passed_from c xs)) (λ c. drops_carried (passed_from c (x ∷ xs))) x.from x.batch.drops n below
    (here_more (x.from == x.from) x.batch (passed_from x.from xs) (eq-eqb x.from x.from refl))
    (λ c apart. there_same (x.from == c) x.batch (passed_from c xs) (ne_eqb x.from c apart)) in
    omega (arith, one, drops_apart n xs (All-tail (λ (y : Passed). y.from < n) x xs from))

-- no batch came from a CPU that isn't there
pub none_from : (n c : ℕ) (xs : List Passed) → AreFrom n xs → n ≤ c → passed_from c xs ≡ []
none_from n c [] from few = refl
none_from n c (x ∷ xs) from few =
    let below : x.from < n = All-head (λ (y : Passed). y.from < n) x xs from in
    let apart : (x.from == c) ≡ false = ne_eqb x.from c (λ same. absurd (omega (arith, same, below, few))) in
    rw apart (none_from n c xs (All-tail (λ (y : Passed). y.from < n) x xs from) few)

-- each batch is of one of the first CPUs, so many
abbrev pub AreOf : ℕ → List Passed → Type 0
AreOf most xs = AllByRecursion (λ (x : Passed). x.batch.cpu < most) xs

pub are_of : (most n : ℕ) (xs : List Passed) → n ≤ most → AreFrom n xs → HaveNumbers xs → AreOf most xs
are_of most n [] few from own = tt
are_of most n (x ∷ xs) few from (one, own) =
    let below : x.from < n = All-head (λ (y : Passed). y.from < n) x xs from in
    (omega (arith, one, below, few), are_of most n xs few (All-tail (λ (y : Passed). y.from < n) x xs from) own)
