use Rattle.std.proofs.Common.{◌≡◌, ◌+◌, ◌++◌, ◌≤◌, List, length, Some}
use Rattle.std.specs.Prelude.{map, vec_capacity, vec_len}
use Rattle.dspec_c.specs.Words.{EnabledRows, Pair, AllInside, EachFrom, IsCpuAt, IsPlaceOf, firsts, insides, refusals, Shared}
use Rattle.dspec_c.proofs.gather.gather.Given as goal

abbrev pub invariant-loop-places : goal.invariant-loop-places
invariant-loop-places l = record {
  home : (shared : Shared) (schema : EnabledRows) (pairs : List Pair) → EachFrom (IsPlaceOf shared schema pairs) 0 (firsts l.fn.places.items)
      → EachFrom (IsCpuAt shared schema pairs) 0 l.cpus.items × EachFrom (IsPlaceOf shared schema pairs) (length l.cpus.items) (firsts l.places.items);
  all : map Some l.cpus.items ++ insides l.places.items ≡ insides l.fn.places.items;
  inside : AllInside l.places.items;
  room : length l.places.items + vec_len l.cpus ≤ vec_capacity l.cpus;
  counted : l.counts.items ++ refusals l.places.items ≡ refusals l.fn.places.items;
  counts : length l.places.items + vec_len l.counts ≤ vec_capacity l.counts;
}

abbrev pub decreases-loop-places : goal.decreases-loop-places
decreases-loop-places l = length l.places.items
