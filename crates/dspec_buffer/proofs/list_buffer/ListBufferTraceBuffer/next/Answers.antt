use Rattle.std.proofs.{Common.◌≡◌, Common.Ok, Common.Err, Common.ap, Common.drop, Common.subst, Common.◌∙◌, lemmas.List.take_rest}
use Rattle.dspec_buffer.specs.Words.{Answers}
use Rattle.dspec_buffer.proofs.{Packed.steps_over, Packed.steps_none, SchemaLaws.laws_from}
use Rattle.dspec_buffer.proofs.list_buffer.ListBufferTraceBuffer.next.Goals as goal

pub returns-in-Ok : goal.returns-in-Ok
returns-in-Ok g c = λ rs h.
    let s = c.args.schema.now in
    let laws = laws_from (g.met.S.Schema.zero_has_none s) (g.met.S.Schema.shapes_fit s) (g.met.S.Schema.texts_fit s) (g.met.S.Schema.texts_differ s) in
    let front : c.in_ok-texts.texts.now ≡ drop c.args.place c.args.self.now.texts =
    c.in_ok-texts.ensures.lookup.0.2 ∙ take_rest c.deref.result.now c.args.place ∙ ap (drop c.args.place) (c.deref.ensures.value ∙ ap (λ b. b.texts) c.self.view_is) in
    steps_over _ _ _ laws c.args.self.now.texts c.args.place rs c.in-Ok.found.0 c.in-Ok.found.1 h
    (subst (λ z. Answers (g.S.Schema.shape_of s) (g.S.Schema.accepted s) (g.S.Schema.text s) z (Ok (c.in-Ok.found.0, c.in-Ok.found.1))) front c.in-Ok.ensures)

pub returns-in-Err : goal.returns-in-Err
returns-in-Err g c = λ rs h.
    let s = c.args.schema.now in
    let laws = laws_from (g.met.S.Schema.zero_has_none s) (g.met.S.Schema.shapes_fit s) (g.met.S.Schema.texts_fit s) (g.met.S.Schema.texts_differ s) in
    let front : c.in_ok-texts.texts.now ≡ drop c.args.place c.args.self.now.texts =
    c.in_ok-texts.ensures.lookup.0.2 ∙ take_rest c.deref.result.now c.args.place ∙ ap (drop c.args.place) (c.deref.ensures.value ∙ ap (λ b. b.texts) c.self.view_is) in
    steps_none _ _ _ laws c.args.self.now.texts c.args.place rs c.in-Err.field-0 h
    (subst (λ z. Answers (g.S.Schema.shape_of s) (g.S.Schema.accepted s) (g.S.Schema.text s) z (Err c.in-Err.field-0)) front c.in-Err.ensures)
