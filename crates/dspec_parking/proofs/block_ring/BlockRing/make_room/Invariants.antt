use Rattle.std.specs.Prelude.{ℕ, ◌<◌, length}
use Rattle.dspec_parking.specs.Words.{FitsBeside, without_oldest, PassesOldest}
use Rattle.dspec_parking.proofs.block_ring.BlockRing.make_room.Given as goal

-- so many of the oldest are gone, and with fewer gone there was no room
abbrev pub invariant-passing : goal.invariant-passing
invariant-passing l = record {
  passes : PassesOldest l.gone l.fn.self l.self;
  fewest : (j : ℕ) → j < l.gone.places → ¬ FitsBeside (without_oldest j l.fn.self) l.length;
}

abbrev pub decreases-passing : goal.decreases-passing
decreases-passing l = length l.self.places
