-- The counters of a side fit: each is at most the number of the deeds. The issue of what was given out fits a word.
use Rattle.std.proofs.Common.{◌≡◌, ℕ, ◌+◌, ◌<◌, ◌≤◌, ◌^◌, Bool, true, false, not, None, true≢false, List, [], ◌∷◌, ◌++◌, length, reverse, if◌then◌else◌, refl, ap, ◌∙◌, sym, subst, ⊎_elim, arith}
use Rattle.std.proofs.Common.{length-append}
use Rattle.std.proofs.lemmas.{Bool.Decides.nat_tests, List.length-reverse}
use Rattle.std.specs.Prelude.{nat_lt}
use Rattle.dspec_interleaving.specs.{Words.Speculation, Words.start_fault, Words.opens, Words.opened, Words.issue, Words.present, Words.SpareCounts, Words.is_call, Words.calls, Words.seals_now}
use Rattle.dspec_interleaving.specs.{Words.seals, Words.is_drop, Words.growing, Words.IsSound, Words.Follows, Words.Config, Words.Deed, Words.Opened, declared.flight.Spare.Spare}
use Rattle.dspec_interleaving.specs.declared.flight.Spare.TheVariants as spare
use Rattle.dspec_deeds.proofs.TestLemmas.{or_tells, and_tells, same_id_tells}
use Rattle.dspec_interleaving.proofs.Tests.{all_fit}

-- one at the most
one_at_most : (b : Bool) → (if b then 1 else 0) ≤ 1
one_at_most true = omega arith
one_at_most false = omega arith

-- no more calls than deeds
pub calls_counted : (c : ℕ) (h : List Deed) → calls c h ≤ length h
calls_counted c [] = omega arith
calls_counted c (d ∷ h) = let more = calls_counted c h in let one = one_at_most (is_call c d) in omega arith

-- no more seals than deeds
pub seals_counted : (c : ℕ) (h : List Deed) → seals c h ≤ length h
seals_counted c [] = omega arith
seals_counted c (d ∷ h) = let more = seals_counted c h in let one = one_at_most (seals_now c d) in omega arith

-- no more drops since the last Seal than deeds
pub drops_counted : (c : ℕ) (h : List Deed) → (growing c h).drops ≤ length h
drops_counted c [] = omega arith
drops_counted c (d ∷ h) = go (drops_counted c h) (seals_now c d) refl
  where
    go : (growing c h).drops ≤ length h → (b : Bool) → seals_now c d ≡ b → (growing c (d ∷ h)).drops ≤ length (d ∷ h)
    go more true e = rw e (omega arith)
    go more false e = let one = one_at_most (is_drop c d) in rw e (omega arith)

-- a list of deeds whose one more is countable
pub one_more : (ds new : List Deed) (d : Deed) (n : ℕ) → n ≤ length (reverse ds) → new ≡ ds ++ d ∷ [] → length new < 2 ^ 64 → n + 1 < 2 ^ 64
one_more ds new d n le e lt =
    let turned = length-reverse ds in
    let longer = ap length e ∙ length-append ds (d ∷ []) in
    omega arith

-- what was given out has an issue below the most
pub issue_below : (k : Config) (h : List Deed) (id : Speculation) → IsSound k h → opened id h ≡ true → id.issue < k.max_issues
issue_below k (d ∷ h) id s e = ⊎_elim
    (λ (t : opens id d ≡ true). go d s.1 t)
    (λ (t : opened id h ≡ true). issue_below k h id s.0 t)
    (or_tells (opens id d) (opened id h) e)
  where
    go : (d : Deed) → Follows k h d → opens id d ≡ true → id.issue < k.max_issues
    go (Opened c j) f t =
        let free = f.1.2 in
        let now = f.1.3 in
        let is = same_id_tells id j t in
        let below = (and_tells (not (opened (present j.slot h) h)) (nat_lt (issue j.slot h) k.max_issues) free).1 in
        let less : j.issue < k.max_issues = grind (arith, nat_tests) in
        subst (λ (x : Speculation). x.issue < k.max_issues) (sym is) less
    go d f t = absurd (true≢false (sym t))
issue_below k [] id s e = absurd (true≢false (sym e))

-- no more issues than a word has room for
pub issues_fit : (k : Config) → start_fault k ≡ None → k.max_issues ≤ 2 ^ 57
issues_fit k e = (all_fit k e).1

-- no more batches taken than sealed
pub takes_sealed : (sealed takes : ℕ) (place : Spare) → SpareCounts sealed takes place → takes ≤ sealed
takes_sealed sealed takes spare.InHand counts = let a = counts.1 in omega arith
takes_sealed sealed takes place counts = omega arith
