-- What tests tell, and the ranges of a configuration.
use Rattle.std.proofs.Common.{◌≡◌, ℕ, ◌≤◌, ◌^◌, Bool, true, false, not, Option, Some, None, if◌then◌else◌, refl, sym, arith, true≢false}
use Rattle.std.proofs.lemmas.Bool.Decides.{nat_tests}
use Rattle.std.specs.Prelude.{nat_le, is_none}
use Rattle.dspec_interleaving.specs.Words.{is_between, is_size, start_fault, Config, Cpus, Specs, BufSize, SpecSize, Issues, Calls}
use Rattle.dspec_deeds.proofs.TestLemmas.{and_tells}

-- nothing is there
pub is_nothing : {X : Type 0} (x : Option X) → is_none x ≡ true → x ≡ None
is_nothing None e = refl
is_nothing (Some f) e = absurd (cc (e))

-- what a negated test tells
pub not_tells : (b : Bool) → not b ≡ true → b ≡ false
not_tells true e = absurd (true≢false (sym e))
not_tells false e = refl

-- a fault that isn't met
pub passes : {X : Type 0} (b : Bool) (x : X) (rest : Option X) → (if not b then Some x else rest) ≡ None → (b ≡ true) × (rest ≡ None)
passes true x rest e = (refl, e)
passes false x rest e = absurd (cc (e))

-- no more slots than a call goes over, no more issues than a word has room for, and no more calls than can be counted
pub all_fit : (k : Config) → start_fault k ≡ None → (k.nspec ≤ 63) × (k.max_issues ≤ 2 ^ 57) × (k.max_calls ≤ 2 ^ 62)
all_fit k e =
    let cpus = passes (is_between 1 64 k.cpus) Cpus _ e in
    let specs = passes (is_between 1 63 k.nspec) Specs _ cpus.1 in
    let buffers = passes (is_size k.bufsize) BufSize _ specs.1 in
    let speculative = passes (is_size k.specsize) SpecSize _ buffers.1 in
    let issues = passes (is_between 1 (2 ^ 57) k.max_issues) Issues _ speculative.1 in
    let calls = passes (is_between 1 (2 ^ 62) k.max_calls) Calls _ issues.1 in
    (at_most 63 k.nspec specs.0, at_most (2 ^ 57) k.max_issues issues.0, at_most (2 ^ 62) k.max_calls calls.0)
  where
    at_most : (most n : ℕ) → is_between 1 most n ≡ true → n ≤ most
    at_most most n e = let below = (and_tells (nat_le 1 n) (nat_le n most) e).1 in grind (arith, nat_tests)
