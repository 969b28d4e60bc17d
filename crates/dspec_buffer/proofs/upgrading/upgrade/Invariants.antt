use Rattle.dspec_buffer.proofs.Upgrades.{IsUpgrading}
use Rattle.dspec_buffer.proofs.upgrading.upgrade.Given as goal

abbrev pub invariant-loop-rec : goal.invariant-loop-rec
invariant-loop-rec l = record {
  can_next : (goal.iterator-loop-rec).can_next l.rec-iterator;
  is_finite : (goal.iterator-loop-rec).is_finite l.rec-iterator;
  upgrading : IsUpgrading l.fn.old l.fn.stamp l.fn.text l.initial.to.size l.to l.rec-iterator;
}
