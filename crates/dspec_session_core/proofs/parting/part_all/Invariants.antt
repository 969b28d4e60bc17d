-- First the CPUs that are no longer there have parted; then it is told what is left of those that no longer wait.
use Rattle.std.proofs.Common.{◌≡◌, ◌≤◌, ◌+◌, vec_len, vec_capacity, length}
use Rattle.dspec_session_core.specs.Words.{last_words, set_up}
use Rattle.dspec_session_core.proofs.AllParted.{LeftSoFar, PartedSoFar}
use Rattle.dspec_session_core.proofs.parting.part_all.Given as goal

abbrev pub invariant-loop-cpus : goal.invariant-loop-cpus
invariant-loop-cpus g l = record {
  so_far : PartedSoFar g.S.Schema.shape_of g.S.Schema.accepted g.S.Schema.text l.fn.cpus.items l.cpus.items l.fn.seats.items l.seats.items l.parted.items;
  seats_room : vec_capacity l.fn.seats ≤ vec_capacity l.seats;
  parted_room : vec_capacity l.fn.parted ≤ vec_capacity l.parted;
  seats_count : vec_len l.seats + vec_len l.cpus ≡ vec_len l.fn.seats + vec_len l.fn.cpus;
  parted_count : vec_len l.parted + vec_len l.cpus ≡ vec_len l.fn.cpus;
}

abbrev pub decreases-loop-cpus : goal.decreases-loop-cpus
decreases-loop-cpus g l = vec_len l.cpus

abbrev pub invariant-loop-one : goal.invariant-loop-one
invariant-loop-one g l = record {
  so_far : LeftSoFar g.S.Schema.shape_of g.S.Schema.accepted g.S.Schema.text (set_up l.fn.words) (last_words l.last) (length l.fn.seats.items) l.fn.cpus.items l.fn.ends.items
      l.ends.items l.parted.items l.left.items;
  room : vec_capacity l.fn.left ≤ vec_capacity l.left;
  count : vec_len l.left + vec_len l.parted ≡ vec_len l.fn.cpus;
}

abbrev pub decreases-loop-one : goal.decreases-loop-one
decreases-loop-one g l = vec_len l.parted
