use Rattle.std.proofs.Common.{◌≡◌, take}
use Rattle.specview.specs.Words.{greatest_of}
use Rattle.specview.proofs.events.greatest_of.Given as goal

abbrev pub invariant-loop-rec : goal.invariant-loop-rec
invariant-loop-rec l = l.greatest ≡ greatest_of (take l.rec-index l.records)
