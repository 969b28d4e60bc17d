-- The CPUs, and the workers, that are in pairs, and those that are still to come.
use Rattle.std.proofs.Common.{◌≡◌, ◌≤◌, ◌+◌, ◌++◌, length}
use Rattle.std.specs.Prelude.{vec_capacity}
use Rattle.dspec.specs.Words.{cpus_of, workers_of}
use Rattle.dspec.proofs.workers.pair_up.Given as goal

abbrev pub invariant-loop-cpus : goal.invariant-loop-cpus
invariant-loop-cpus g l = record {
  cpus : cpus_of l.pairs.items ++ l.cpus.items ≡ l.fn.cpus.items;
  workers : workers_of l.pairs.items ++ l.workers.items ≡ l.fn.workers.items;
  count : length l.workers.items ≡ length l.cpus.items;
  room : length l.pairs.items + length l.cpus.items ≤ vec_capacity l.pairs;
  cpus_room : vec_capacity l.cpus ≡ vec_capacity l.fn.cpus;
  workers_room : vec_capacity l.workers ≡ vec_capacity l.fn.workers;
}

abbrev pub decreases-loop-cpus : goal.decreases-loop-cpus
decreases-loop-cpus g l = length l.cpus.items
