use Rattle.std.proofs.Common.{drop}
use Rattle.dspec_record.specs.Words.{layout, record_text}
use Rattle.dspec_record.proofs.{Places.IsPlaced, Writing.IsWriting}
use Rattle.dspec_record.proofs.codec.put_values.Given as goal

abbrev pub invariant-loop-i : goal.invariant-loop-i
invariant-loop-i g l =
    IsWriting (record_text l.fn.header l.fields (g.R.Recorded.as_record l.fn.rec)) (layout l.fn.header l.fields).size l.end l.out (drop l.i l.fields) (drop l.i l.values)
    × IsPlaced l.moved l.end (drop l.i l.fields) (drop l.i l.places)
