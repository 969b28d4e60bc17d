use Rattle.dspec_record.proofs.Places.{ArePlaced}
use Rattle.dspec_record.proofs.layout.places_of.Given as goal

abbrev pub invariant-loop-i : goal.invariant-loop-i
invariant-loop-i l = ArePlaced l.i l.end l.places l.fields
