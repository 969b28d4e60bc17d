-- The records so far are copied.
use Rattle.std.proofs.Common.{◌≡◌, take}
use Rattle.dspec_core.proofs.machine.finishing.copied.Given as goal

abbrev pub invariant-loop-rec : goal.invariant-loop-rec
invariant-loop-rec l = l.copy ≡ take l.rec-index l.recs
