-- What the end of a trace tells of each CPU comes after the batches that its session passed on.
use Rattle.std.proofs.Common.{◌≡◌, ◌<◌, ◌+◌, ◌==◌, ℕ, zero, suc, false, List, [], ◌∷◌, ◌++◌, Some, refl, arith, slice_get}
use Rattle.std.proofs.lemmas.Bool.Decides.{nat_tests}
use Rattle.dspec_trace_reading.specs.Words.{Record, EnabledRows, GotAll, Passed, passed_from, GetsTellings, IsBare, IsTelling, untold, HaveNumbers, drops_carried, Batch, Left}
use Rattle.dspec_trace_reading.proofs.Folding.{Holds}

module _ {K : Type 0} (gets : K → Batch → K → Type 0) where
  abbrev pub told_of : (c : ℕ) (ls : List Left) (k l : K) → GetsTellings gets c ls k l → List Passed
  told_of c [] k l e = []
  told_of c (x ∷ xs) k l (m, one, rest) = record { from = c; batch = one.batch } ∷ told_of (c + 1) xs m l rest

  pub got_told : (c : ℕ) (ls : List Left) (k l : K) (t : GetsTellings gets c ls k l) → GotAll gets k (told_of c ls k l t) l
  got_told c [] k l e = e
  got_told c (x ∷ xs) k l (m, one, rest) = (m, one.got, got_told (c + 1) xs m l rest)

  pub told_numbers : (c : ℕ) (ls : List Left) (k l : K) (t : GetsTellings gets c ls k l) → HaveNumbers (told_of c ls k l t)
  told_numbers c [] k l e = tt
  told_numbers c (x ∷ xs) k l (m, one, rest) = (one.is.of, told_numbers (c + 1) xs m l rest)

  told_above : (c d : ℕ) (ls : List Left) (k l : K) (t : GetsTellings gets c ls k l) → d < c → passed_from d (told_of c ls k l t) ≡ []
  told_above c d [] k l e lt = refl
  told_above c d (x ∷ xs) k l (m, one, rest) lt =
      let apart : (c == d) ≡ false = grind (arith, nat_tests) in
      rw apart (told_above (c + 1) d xs m l rest (omega arith))

  -- of each CPU it is one batch, which has no records
  pub told_there : (c i d : ℕ) (ls : List Left) (x : Left) (k l : K) (t : GetsTellings gets c ls k l) → d ≡ c + i → slice_get ls i ≡ Some x
      → (b : Batch) × IsTelling d (untold x.report) b × (passed_from d (told_of c ls k l t) ≡ b ∷ [])
  told_there c i d [] x k l e on at = absurd (cc (at))
  told_there c zero d (y ∷ ls) x k l (m, one, rest) on at = grind (arith, nat_tests, told_above)
  told_there c (suc i) d (y ∷ ls) x k l (m, one, rest) on at =
      let apart : (c == d) ≡ false = grind (arith, nat_tests) in
      let later = told_there (c + 1) i d ls x m l rest (omega arith) at in
      (later.0, later.1, rw apart later.2)

pub numbers_both : (xs ys : List Passed) → HaveNumbers xs → HaveNumbers ys → HaveNumbers (xs ++ ys)
numbers_both [] ys first second = second
numbers_both (x ∷ xs) ys (one, first) second = (one, numbers_both xs ys first second)

pub drops_more : (bs : List Batch) (b : Batch) → drops_carried (bs ++ b ∷ []) ≡ drops_carried bs + b.drops
drops_more [] b = omega arith
drops_more (x ∷ bs) b = let more = drops_more bs b in omega arith

-- a batch without records, after others, leaves the records that they hold
pub hold_more : (e : EnabledRows) (bs : List Batch) (b : Batch) (rs : List Record) → Holds e bs rs → IsBare b → Holds e (bs ++ b ∷ []) rs
hold_more e [] b rs none bare = ([], [], bare.0, bare.1, none, refl)
hold_more e (x ∷ bs) b rs (ps, rest, has, many, sum, more) bare = (ps, rest, has, many, sum, hold_more e bs b rest more bare)
