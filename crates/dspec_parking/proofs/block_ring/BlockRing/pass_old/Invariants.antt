use Rattle.std.specs.{List.AllByRecursion, Prelude.◌-◌, Prelude.◌≤◌, Prelude.take}
use Rattle.dspec_parking.specs.Words.{IsOld, PassesOldest}
use Rattle.dspec_parking.proofs.block_ring.BlockRing.pass_old.Given as goal

-- so many of the oldest are gone, each of them old
abbrev pub invariant-passing : goal.invariant-passing
invariant-passing l = record {
  passes : PassesOldest l.gone l.fn.self l.self;
  bound : l.gone.places ≤ l.most;
  old_ones : AllByRecursion (IsOld l.before) (take l.gone.places l.fn.self.places);
}

abbrev pub decreases-passing : goal.decreases-passing
decreases-passing l = l.most - l.gone.places
