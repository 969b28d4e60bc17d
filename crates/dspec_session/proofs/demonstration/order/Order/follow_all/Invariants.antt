use Rattle.std.proofs.Common.{◌≡◌, length}
use Rattle.dspec_session.specs.Words.{with_records}
use Rattle.dspec_session.proofs.demonstration.order.Order.follow_all.Given as goal

abbrev pub invariant-loop-rec : goal.invariant-loop-rec
invariant-loop-rec g l = with_records l.self l.records ≡ with_records l.fn.self l.fn.records

abbrev pub decreases-loop-rec : goal.decreases-loop-rec
decreases-loop-rec g l = length l.records
