use Rattle.dspec_record.proofs.Limits.{AreKnown}
use Rattle.dspec_record.proofs.layout.limits_of.Given as goal

abbrev pub invariant-loop-i : goal.invariant-loop-i
invariant-loop-i l = AreKnown l.i l.limits l.fields
