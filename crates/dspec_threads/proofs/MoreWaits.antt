-- A lane serves once more, asks once more in vain, or attends once more to what is said to it.
use Rattle.std.proofs.Common.{◌≡◌, ℕ, ◌+◌, ◌≤◌, ◌++◌, suc, Bool, List, append_assoc, ap, refl, ◌∙◌, subst, sym, arith}
use Rattle.std.proofs.lemmas.Bool.Decides.{nat_tests}
use mathlib.Core.List.{IsPrefix}
use Rattle.dspec_threads.specs.Words.{Ghosts, Deed, Cpu, Lane, Speculation, AsksAndAttends, AsksTimes, AttendsOnce, AttendsTimes, AttendsWithin, OpensAttending, settled_by, OpeningOn, AsksAndServes}
use Rattle.dspec_threads.specs.Words.{AsksInVain, ServesAgain, ServesTimes, ServesWithin, Opening}
use Rattle.dspec_threads.specs.declared.{settling.Settler.Settler, verdict.Verdict.Verdict}

next_is : (n : ℕ) → suc n ≡ n + 1
next_is n = omega arith

module _ {S : Type 0} {g : Ghosts S} (has : Cpu S → List Deed → Type 0) where
  pub serves_once_more : (n : ℕ) (old mid new : Lane S g) → ServesTimes has n old mid → ServesAgain has mid new → ServesTimes has (n + 1) old new
  serves_once_more n old mid new before again = subst (λ k. ServesTimes has k old new) (next_is n) (mid, before, again)

  pub asks_once_more : (n : ℕ) (old mid new : Lane S g) → AsksAndServes has n old mid → AsksInVain has mid new → AsksAndServes has (n + 1) old new
  asks_once_more n old mid new before again = subst (λ k. AsksAndServes has k old new) (next_is n) (mid, before, again)

  -- after a look that found a path no call was made
  pub serves_no_more : (n most : ℕ) (old mid new : Lane S g) → n ≤ most → ServesTimes has n old mid → new ≡ mid → ServesWithin has most old new
  serves_no_more n most old mid new few before same = grind (arith, nat_tests)

module _ {S : Type 0} {g : Ghosts S} (has : Cpu S → List Deed → Type 0) (may : Speculation → Bool → Type 0) where
  pub attends_once_more : (n : ℕ) (before now after : List Verdict) (old mid new : Lane S g) → AttendsTimes has may n before now old mid → AttendsOnce has may now after mid new
      → AttendsTimes has may (n + 1) before after old new
  attends_once_more n before now after old mid new earlier again = subst (λ k. AttendsTimes has may k before after old new) (next_is n) (mid, now, earlier, again)

  pub asks_attending_once_more : (n : ℕ) (before now after : List Verdict) (old mid new : Lane S g) → AsksTimes has may n before now old mid → AsksAndAttends has may now after mid new
      → AsksTimes has may (n + 1) before after old new
  asks_attending_once_more n before now after old mid new earlier again = subst (λ k. AsksTimes has may k before after old new) (next_is n) (mid, now, earlier, again)

  -- after a look that found a path nothing was done
  pub attends_no_more : (n most : ℕ) (before now after : List Verdict) (old mid new : Lane S g) → n ≤ most → AttendsTimes has may n before now old mid → new ≡ mid → after ≡ now
      → AttendsWithin has may most before after old new
  attends_no_more n most before now after old mid new few earlier same none = grind (arith, nat_tests)

  -- where a path was opened nothing was settled
  pub opens_attending : {J : Type 0} (n most : ℕ) (answer : Opening) (before : List Verdict) (s t : Settler J) (old mid new : Lane S g) → n ≤ most
      → AsksTimes has may n before (settled_by s) old mid → t ≡ s → OpeningOn has answer mid new → OpensAttending has may most answer before (settled_by t) old new
  opens_attending {J} n most answer before s t old mid new few earlier same opens = record {
    count = n;
    few = few;
    asked = mid;
    asks = subst (λ (x : Settler J). AsksTimes has may n before (settled_by x) old mid) (sym same) earlier;
    opens = opens;
  }

-- what comes first of what comes first
pub first_of_first : {A : Type 0} (xs ys zs : List A) → IsPrefix xs ys → IsPrefix ys zs → IsPrefix xs zs
first_of_first xs ys zs (more, e) (most, f) = (more ++ most, sym (append_assoc xs more most) ∙ (ap (λ ws. ws ++ most) e ∙ f))

-- and of what is longer
pub first_of_longer : {A : Type 0} (xs ys zs : List A) → IsPrefix xs ys → IsPrefix xs (ys ++ zs)
first_of_longer xs ys zs is = first_of_first xs ys (ys ++ zs) is (zs, refl)
