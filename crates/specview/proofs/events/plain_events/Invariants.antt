use Rattle.std.proofs.Common.{◌≡◌, [], replicate}
use Rattle.specview.specs.Words.{One}
use Rattle.specview.proofs.events.plain_events.Given as goal

abbrev pub invariant-loop-place : goal.invariant-loop-place
invariant-loop-place l = l.events ≡ record { header = One; rows = replicate l._place [] }
