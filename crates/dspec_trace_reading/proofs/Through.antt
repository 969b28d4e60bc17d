-- A sink that is part of another got what that got.
use Rattle.std.proofs.Common.{◌+◌, ℕ, List, [], ◌∷◌, ap}
use Rattle.dspec_trace_reading.specs.Words.{GotAll, Passed, GetsTellings, Batch, Left}

module _ {B K : Type 0} (gets : B → Batch → B → Type 0) (sees : K → Batch → K → Type 0) (f : B → K) (through : (a : B) (b : Batch) (c : B) → gets a b c → sees (f a) b (f c)) where
  pub got_through : (xs : List Passed) (k l : B) → GotAll gets k xs l → GotAll sees (f k) xs (f l)
  got_through [] k l e = ap f e
  got_through (x ∷ xs) k l (m, got, rest) = (f m, through k x.batch m got, got_through xs m l rest)

  pub told_through : (c : ℕ) (ls : List Left) (k l : B) → GetsTellings gets c ls k l → GetsTellings sees c ls (f k) (f l)
  told_through c [] k l e = ap f e
  told_through c (x ∷ xs) k l (m, one, rest) =
      (f m, record { batch = one.batch; is = one.is; got = through k one.batch m one.got }, told_through (c + 1) xs m l rest)
