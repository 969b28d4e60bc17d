use Rattle.std.proofs.Common.{Ok, subst}
use Rattle.dspec_buffer.specs.Words.{ReadsNext}
use Rattle.dspec_buffer.proofs.{Coming.reads_one, SchemaLaws.laws_from}
use Rattle.dspec_buffer.proofs.prefix.read_up_to.Goals as goal

pub loop-next-preserved : goal.loop-next-preserved
loop-next-preserved g c =
    let s = c.args.schema.now in
    let laws = laws_from (g.met.S.Schema.zero_has_none s) (g.met.S.Schema.shapes_fit s) (g.met.S.Schema.texts_fit s) (g.met.S.Schema.texts_differ s) in
    reads_one _ _ _ laws c.args.text.now c.loop-next.place c.in-Some.found.0 c.in-Some.found.1 c.loop-next.invariant
    (subst (λ o. ReadsNext (g.S.Schema.shape_of s) (g.S.Schema.accepted s) (g.S.Schema.text s) c.args.text.now c.loop-next.place (Ok o)) c.in-Some.is c.in-Ok.ensures)
