-- The stamps rise where those that are left do.
use Rattle.std.proofs.Common.{◌≡◌, drop}
use Rattle.dspec_ctf_reading.specs.Words.{RisesFrom, last_of, stamps_of}
use Rattle.dspec_ctf_reading.proofs.folder.check.rising.Given as goal

abbrev pub invariant-loop-place : goal.invariant-loop-place
invariant-loop-place l = record {
  on : RisesFrom l.last (stamps_of l.events) → RisesFrom l.before (stamps_of (drop l.place l.events));
  back : RisesFrom l.before (stamps_of (drop l.place l.events)) → RisesFrom l.last (stamps_of l.events);
  end : last_of l.last (stamps_of l.events) ≡ last_of l.before (stamps_of (drop l.place l.events));
}
