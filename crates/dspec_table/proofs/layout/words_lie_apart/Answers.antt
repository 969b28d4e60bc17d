use Rattle.std.proofs.Common.{ℕ, ◌+◌, ◌*◌, ◌≤◌, arith}
use Rattle.dspec_table.specs.Words.{group_width}
use Rattle.dspec_table.proofs.Places.{far_apart}
use Rattle.dspec_table.proofs.layout.words_lie_apart.Goals as goal

pub returns-clause-slots : goal.returns-clause-slots
returns-clause-slots u s t lt = omega arith

pub returns-clause-first : goal.returns-clause-first
returns-clause-first u s one = omega arith

pub returns-clause-last : goal.returns-clause-last
returns-clause-last u k c s t most =
    let x : ℕ = c * group_width k in
    let most' : s ≤ k.nspec = most in
    let goal : (s + 1) * 8 + 8 ≤ k.nspec * 8 + 16 + x + t = omega arith in
    goal

pub returns-clause-activity : goal.returns-clause-activity
returns-clause-activity u k c s = let x : ℕ = c * group_width k in let goal : 8 + 8 ≤ k.nspec * 8 + 16 + x + s = omega arith in goal

pub returns-clause-groups : goal.returns-clause-groups
returns-clause-groups u = far_apart
