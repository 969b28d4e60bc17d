use Rattle.std.proofs.Common.{ℕ, ◌<◌}
use Rattle.dspec_c.specs.Words.{AreCame, IsInsideAt}
use Rattle.dspec_c.proofs.gather.all_home.Given as goal

-- each so far was looked at, and is inside
abbrev pub invariant-loop-cpu : goal.invariant-loop-cpu
invariant-loop-cpu l = record {
  came : AreCame l.fn.places.items l.places.items;
  inside : (k : ℕ) → k < l.cpu → IsInsideAt k l.places.items;
}
