use Rattle.std.proofs.Common.{◌≡◌, take}
use Rattle.specview.specs.Words.{greatest_epid}
use Rattle.specview.proofs.events.greatest_epid.Given as goal

abbrev pub invariant-loop-records : goal.invariant-loop-records
invariant-loop-records l = l.greatest ≡ greatest_epid (take l.records-index l.accepted)
