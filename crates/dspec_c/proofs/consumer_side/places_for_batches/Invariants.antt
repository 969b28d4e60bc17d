use Rattle.std.proofs.Common.{◌≡◌, None}
use Rattle.std.specs.Prelude.{replicate}
use Rattle.dspec_c.proofs.consumer_side.places_for_batches.Given as goal

-- so many places as were counted
abbrev pub invariant-loop-place : goal.invariant-loop-place
invariant-loop-place l = l.taken.items ≡ replicate l.place None
