use Rattle.std.proofs.{Common.sym, Common.add-one, Common.arith, Common.◌∙◌, Math.ListN.length-set}
use Rattle.dspec_c.proofs.Widths.{one_more, one_none}
use Rattle.dspec_c.proofs.schema_calls.fields_of.Goals as goal

pub returns-in_default : goal.returns-in_default
returns-in_default c = one_none c.loop-place.place c.args.widths.now (omega arith) (sym c.in_default.ensures)

pub loop-place-preserved : goal.loop-place-preserved
loop-place-preserved c = record {
  eight = length-set c.loop-place.fields c.loop-place.place c.in-Some.field ∙ c.loop-place.invariant.eight;
  are = rw add-one (one_more c.loop-place.place c.args.widths.now c.loop-place.fields c.in-Some.field (omega arith) (omega arith) c.loop-place.invariant.are (sym c.in-Some.ensures));
}
