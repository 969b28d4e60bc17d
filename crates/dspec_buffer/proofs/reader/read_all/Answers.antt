use Rattle.std.proofs.{Common.Ok, Common.subst, Common.arith, lemmas.Result.err_from_is_err_and}
use Rattle.dspec_buffer.specs.Words.{ReadsNext}
use Rattle.dspec_buffer.proofs.{Coming.reads_one, Coming.reads_all, Coming.stops, Faulty.stops_unreadable, Left.remaining_at_start, SchemaLaws.laws_from}
use Rattle.dspec_buffer.proofs.reader.read_all.Goals as goal

pub returns-in_err-found-clause-fault : goal.returns-in_err-found-clause-fault
returns-in_err-found-clause-fault g c =
    let s = c.args.schema.now in
    let laws = laws_from (g.met.S.Schema.zero_has_none s) (g.met.S.Schema.shapes_fit s) (g.met.S.Schema.texts_fit s) (g.met.S.Schema.texts_differ s) in
    let p = err_from_is_err_and c.from_residual.result c.from_residual.ensures.1 in
    rw (p.1, p.2) (stops _ _ _ laws c.args.text.now c.loop-found.place c.in_err-found.field-0.0 c.loop-found.invariant c.in_err-found.ensures)

pub returns-in_err-found-clause-unreadable : goal.returns-in_err-found-clause-unreadable
returns-in_err-found-clause-unreadable g c =
    let s = c.args.schema.now in
    let laws = laws_from (g.met.S.Schema.zero_has_none s) (g.met.S.Schema.shapes_fit s) (g.met.S.Schema.texts_fit s) (g.met.S.Schema.texts_differ s) in
    let p = err_from_is_err_and c.from_residual.result c.from_residual.ensures.1 in
    rw p.1 (λ rs h. stops_unreadable _ _ _ laws c.args.text.now c.in_err-found.field-0.0 rs
    (stops _ _ _ laws c.args.text.now c.loop-found.place c.in_err-found.field-0.0 c.loop-found.invariant c.in_err-found.ensures) h)

pub loop-found-preserved : goal.loop-found-preserved
loop-found-preserved g c =
    let s = c.args.schema.now in
    let laws = laws_from (g.met.S.Schema.zero_has_none s) (g.met.S.Schema.shapes_fit s) (g.met.S.Schema.texts_fit s) (g.met.S.Schema.texts_differ s) in
    reads_one _ _ _ laws c.args.text.now c.loop-found.place c.in-Some.found.0 c.in-Some.found.1 c.loop-found.invariant
    (subst (λ o. ReadsNext (g.S.Schema.shape_of s) (g.S.Schema.accepted s) (g.S.Schema.text s) c.args.text.now c.loop-found.place (Ok o)) c.in-Some.is c.in_ok-found.ensures)

pub invariant_of-result : goal.invariant_of-result
invariant_of-result g c =
    let s = c.args.schema.now in
    let laws = laws_from (g.met.S.Schema.zero_has_none s) (g.met.S.Schema.shapes_fit s) (g.met.S.Schema.texts_fit s) (g.met.S.Schema.texts_differ s) in (
      omega arith,
      (
        remaining_at_start _ _ _ laws c.args.text.now c.loop-found.invariant.read (reads_all _ _ _ laws c.args.text.now c.loop-found.place c.loop-found.invariant
            (subst (λ o. ReadsNext (g.S.Schema.shape_of s) (g.S.Schema.accepted s) (g.S.Schema.text s) c.args.text.now c.loop-found.place (Ok o)) c.in_default.is c.in_ok-found.ensures)),
        tt,
      ),
    )
