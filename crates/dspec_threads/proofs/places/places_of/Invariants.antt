-- The places of the CPUs so far, and the CPUs that are to come.
use Rattle.std.proofs.Common.{◌≡◌, ◌++◌, length, map}
use Rattle.dspec_threads.specs.Words.{all_whereabouts, waits_inside}
use Rattle.dspec_threads.proofs.places.places_of.Given as goal

abbrev pub invariant-loop-places : goal.invariant-loop-places
invariant-loop-places g l = record {
  made : all_whereabouts l.places.items ++ map waits_inside l.rest.items ≡ map waits_inside l.fn.cpus.items;
}

abbrev pub decreases-loop-places : goal.decreases-loop-places
decreases-loop-places g l = length l.rest.items
