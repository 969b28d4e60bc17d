use Rattle.std.proofs.Common.{Ok, Err}
use Rattle.dspec_buffer.proofs.{Ahead.walks_on, SchemaLaws.laws_from}
use Rattle.dspec_buffer.proofs.reader.next_of_text.Goals as goal

pub returns-in-Ok : goal.returns-in-Ok
returns-in-Ok g c =
    let s = c.args.schema.now in
    let laws = laws_from (g.met.S.Schema.zero_has_none s) (g.met.S.Schema.shapes_fit s) (g.met.S.Schema.texts_fit s) (g.met.S.Schema.texts_differ s) in
    λ rs h. walks_on _ _ _ laws c.args.text.now c.args.place rs (Ok c.in-Ok.step) c.in-Ok.ensures h

pub returns-in-Err : goal.returns-in-Err
returns-in-Err g c =
    let s = c.args.schema.now in
    let laws = laws_from (g.met.S.Schema.zero_has_none s) (g.met.S.Schema.shapes_fit s) (g.met.S.Schema.texts_fit s) (g.met.S.Schema.texts_differ s) in
    λ rs h. absurd (walks_on _ _ _ laws c.args.text.now c.args.place rs (Err c.in-Err.field-0) c.in-Err.ensures h)
