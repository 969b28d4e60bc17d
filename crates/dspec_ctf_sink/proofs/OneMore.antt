-- One CPU more is told.
use Rattle.std.proofs.Common.{◌≡◌, ℕ, zero, suc, ◌+◌, ◌<◌, List, [], ◌∷◌, length, take, subst, arith}
use Rattle.std.proofs.lemmas.{Bool.Decides.nat_tests, Option.slice_get_within}
use Rattle.std.specs.Prelude.{slice_get, Some}
use Rattle.dspec_ctf_sink.specs.Words.{Batch, Left, GetsTelling, GetsTellings}
use Rattle.dspec_session_core.proofs.PromisedBy.{there_is}

module _ {K : Type 0} (gets : K → Batch → K → Type 0) where
  pub told_more : (n : ℕ) (ls : List Left) (i : ℕ) (x : Left) (k m l : K) → slice_get ls i ≡ Some x → GetsTellings gets n (take i ls) k m
      → GetsTelling gets (n + i) x.report m l → GetsTellings gets n (take (suc i) ls) k l
  told_more n [] i x k m l at got more = let within = slice_get_within [] i x at in absurd (omega arith)
  told_more n (y ∷ ls) zero x k m l at got more = grind (arith, nat_tests)
  told_more n (y ∷ ls) (suc i) x k m l at got more =
      let on : n + suc i ≡ (n + 1) + i = omega arith in
      (got.0, got.1, told_more (n + 1) ls i x got.0 m l at got.2 (subst (λ c. GetsTelling gets c x.report m l) on more))

  pub told_next : (ls : List Left) (i : ℕ) (k m l : K) → i < length ls → GetsTellings gets 0 (take i ls) k m
      → ((x : Left) → slice_get ls i ≡ Some x → GetsTelling gets i x.report m l) → GetsTellings gets 0 (take (i + 1) ls) k l
  told_next ls i k m l within got more =
      let (x, at) = there_is ls i within in
      let on : suc i ≡ i + 1 = omega arith in
      let from : i ≡ 0 + i = omega arith in
      subst (λ n. GetsTellings gets 0 (take n ls) k l) on
      (told_more 0 ls i x k m l at got (subst (λ c. GetsTelling gets c x.report m l) from (more x at)))
