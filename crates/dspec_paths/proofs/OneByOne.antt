-- One place after another: one more.
use Rattle.std.proofs.Common.{◌≡◌, ◌+◌, ℕ, suc, subst, arith}
use Rattle.dspec_paths.specs.Words.{CallsMade, EachOf, Places}

next : (n : ℕ) → suc n ≡ n + 1
next n = omega arith

pub one_more_place : (step : ℕ → CallsMade → CallsMade → Places → Places → Type 0) (n : ℕ) (x z y : CallsMade) (old mid new : Places) → EachOf step n x z old mid → step n z y mid new
    → EachOf step (n + 1) x y old new
one_more_place step n x z y old mid new before one = subst (λ (m : ℕ). EachOf step m x y old new) (next n) (z, mid, before, one)
