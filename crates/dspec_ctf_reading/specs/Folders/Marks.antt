-- Cited by calls. What happened, in order of time.
use Rattle.std.specs.{List.Sorted.IsPermutation, List.Sorted.IsNonDecreasingBy, List.Sorted.IsStableByKey, Ordering.nat_cmp, Prelude.List}
use Rattle.dspec_ctf_reading.specs.declared.folder.mark.Mark.{Mark}

-- the same marks in the order of their times; those of one time in the order that they had
pub record IsByTime (marks sorted : List Mark) : Type 0 where
  pub permutation : IsPermutation marks sorted
  pub in_order : IsNonDecreasingBy (λ m. m.time) sorted
  pub stable : IsStableByKey (λ m. m.time) nat_cmp marks sorted
