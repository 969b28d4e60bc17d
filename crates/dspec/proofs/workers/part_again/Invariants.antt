-- Those that are out of their pairs, and those that are still in one.
use Rattle.std.proofs.Common.{◌≡◌, ◌≤◌, ◌+◌, ◌++◌, length}
use Rattle.std.specs.Prelude.{vec_capacity}
use Rattle.dspec.specs.Words.{cpus_of, workers_of}
use Rattle.dspec.proofs.workers.part_again.Given as goal

abbrev pub invariant-loop-pairs : goal.invariant-loop-pairs
invariant-loop-pairs g l = record {
  cpus : l.cpus.items ++ cpus_of l.pairs.items ≡ cpus_of l.fn.pairs.items;
  workers : l.workers.items ++ workers_of l.pairs.items ≡ workers_of l.fn.pairs.items;
  cpus_room : length l.cpus.items + length l.pairs.items ≤ vec_capacity l.cpus;
  workers_room : length l.workers.items + length l.pairs.items ≤ vec_capacity l.workers;
}

abbrev pub decreases-loop-pairs : goal.decreases-loop-pairs
decreases-loop-pairs g l = length l.pairs.items
