-- The CPUs of the places so far, and the places that are left, with a CPU in each.
use Rattle.std.proofs.Common.{◌≡◌, ◌+◌, ◌++◌, ◌≤◌, length, map, Some}
use Rattle.std.specs.Prelude.{vec_capacity}
use Rattle.dspec_threads.specs.Words.{AllIn, all_whereabouts, who_is_in}
use Rattle.dspec_threads.proofs.places.cpus_of.Given as goal

abbrev pub invariant-loop-places : goal.invariant-loop-places
invariant-loop-places g l = record {
  all : map Some l.cpus.items ++ who_is_in (all_whereabouts l.places.items) ≡ who_is_in (all_whereabouts l.fn.places.items);
  inside : AllIn (who_is_in (all_whereabouts l.places.items));
  room : length l.cpus.items + length l.places.items ≤ vec_capacity l.cpus;
}

abbrev pub decreases-loop-places : goal.decreases-loop-places
decreases-loop-places g l = length l.places.items
