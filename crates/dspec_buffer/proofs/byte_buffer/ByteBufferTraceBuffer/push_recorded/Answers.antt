use Rattle.std.proofs.Common.{◌≡◌, true, false, ap, sym, ◌∙◌, arith, length, take, replicate, ◌++◌, ◌-◌}
use Rattle.dspec_buffer.specs.Words.{Shape, one, extent, padded}
use Rattle.dspec_buffer.proofs.{Fitting.refuses, Fitting.admits, Fitting.placed, Fitting.laid_whole, Keeping.reaches, Keeping.fits_says, Keeping.shape_says, Keeping.kept, Keeping.accepted_alone}
use Rattle.dspec_buffer.proofs.{SchemaLaws.laws_from, Texts.text_facts}
use Rattle.dspec_buffer.proofs.byte_buffer.ByteBufferTraceBuffer.push_recorded.Goals as goal

pub aligned-place-requires-clause-aligned : goal.aligned-place-requires-clause-aligned
aligned-place-requires-clause-aligned g c =
    (g.met.S.Schema.shapes_fit c.args.schema.now _ _ (sym c.shape_in-size.ensures)).aligned

pub overflow_add-end : goal.overflow_add-end
overflow_add-end g c =
    let s = c.args.schema.now in
    let shape : Shape = c.shape_in-size.result in
    let fit = g.met.S.Schema.shapes_fit s _ _ (sym c.shape_in-size.ensures) in
    record { fits = omega (arith, c.aligned-place.ensures.near, c.self.invariant.within, c.self.invariant.bounded, fit.bounded) }

pub put_after-requires-clause-gap : goal.put_after-requires-clause-gap
put_after-requires-clause-gap g c =
    let s = c.args.schema.now in
    let shape : Shape = c.shape_in-size.result in
    let fit = g.met.S.Schema.shapes_fit s _ _ (sym c.shape_in-size.ensures) in
    (placed c.self.inside.offset shape.align shape.size c.aligned-place.result c.self.invariant.words fit.aligned fit.whole_words (λ z. omega (arith, fit.with_epid)) c.aligned-place.ensures.is).step

pub returns-then-end-self-clause-answer : goal.returns-then-end-self-clause-answer
returns-then-end-self-clause-answer g c = λ ps h.
    let s = c.args.schema.now in
    let r = g.R.Recorded.as_record c.args.rec in
    let shape : Shape = c.shape_in-size.result in
    let laws = laws_from (g.met.S.Schema.zero_has_none s) (g.met.S.Schema.shapes_fit s) (g.met.S.Schema.texts_fit s) (g.met.S.Schema.texts_differ s) in
    let at = reaches _ _ _ laws c.self.inside c.args.self.now ps c.self.invariant c.self.view_is h in
    let says = shape_says (g.S.Schema.shape_of s) r shape (sym c.shape_in-size.ensures) in
    let fit = g.met.S.Schema.shapes_fit s _ _ (sym c.shape_in-size.ensures) in
    fits_says (g.S.Schema.shape_of s) (one r) ps c.self.inside.offset shape.align shape.size c.self.inside.size c.args.self.now.size
    false at says.1 says.0 (ap (λ b. b.size) c.self.view_is)
    (refuses c.self.inside.offset shape.align shape.size c.self.inside.size (λ z. omega (arith, fit.with_epid)) (omega (arith, c.aligned-place.ensures.is, c.if-end-self.true)))

pub invariant_of-self : goal.invariant_of-self
invariant_of-self g c =
    let s = c.args.schema.now in
    let shape : Shape = c.shape_in-size.result in
    let fit = g.met.S.Schema.shapes_fit s _ _ (sym c.shape_in-size.ensures) in
    let p = placed c.self.inside.offset shape.align shape.size c.aligned-place.result c.self.invariant.words fit.aligned fit.whole_words
    (λ z. omega (arith, fit.with_epid)) c.aligned-place.ensures.is in
    let above = p.above in
    let size = ap (λ b. b.size) c.self.view_is in
    let within = c.if-end-self.false in
    let counted = c.self.invariant.counted in
    record { within = omega arith; words = p.words; bounded = c.self.invariant.bounded; slack = c.self.invariant.slack; counted = omega arith }

pub returns-clause-answer : goal.returns-clause-answer
returns-clause-answer g c = λ ps h.
    let s = c.args.schema.now in
    let r = g.R.Recorded.as_record c.args.rec in
    let shape : Shape = c.shape_in-size.result in
    let laws = laws_from (g.met.S.Schema.zero_has_none s) (g.met.S.Schema.shapes_fit s) (g.met.S.Schema.texts_fit s) (g.met.S.Schema.texts_differ s) in
    let at = reaches _ _ _ laws c.self.inside c.args.self.now ps c.self.invariant c.self.view_is h in
    let says = shape_says (g.S.Schema.shape_of s) r shape (sym c.shape_in-size.ensures) in
    let fit = g.met.S.Schema.shapes_fit s _ _ (sym c.shape_in-size.ensures) in
    fits_says (g.S.Schema.shape_of s) (one r) ps c.self.inside.offset shape.align shape.size c.self.inside.size c.args.self.now.size
    true at says.1 says.0 (ap (λ b. b.size) c.self.view_is)
    (admits c.self.inside.offset shape.align shape.size c.self.inside.size c.aligned-place.result (λ z. omega (arith, fit.with_epid)) c.aligned-place.ensures.is c.if-end-self.false)

pub returns-clause-kept : goal.returns-clause-kept
returns-clause-kept g c = λ ps h.
    let s = c.args.schema.now in
    let r = g.R.Recorded.as_record c.args.rec in
    let shape : Shape = c.shape_in-size.result in
    let laws = laws_from (g.met.S.Schema.zero_has_none s) (g.met.S.Schema.shapes_fit s) (g.met.S.Schema.texts_fit s) (g.met.S.Schema.texts_differ s) in
    let at = reaches _ _ _ laws c.self.inside c.args.self.now ps c.self.invariant c.self.view_is h in
    let says = shape_says (g.S.Schema.shape_of s) r shape (sym c.shape_in-size.ensures) in
    let fit = g.met.S.Schema.shapes_fit s _ _ (sym c.shape_in-size.ensures) in
    let t = text_facts _ _ _ laws r c.requires.accepted in
    let size = ap (λ b. b.size) c.self.view_is in
    let fitting = c.if-end-self.false in
    let slice = c.as_mut_slice-bytes.ensures.len in
    let written : length (g.S.Schema.text s r) ≡ shape.size = t.size ∙ says.0 in
    let back = laid_whole c.self.inside.offset shape.align c.aligned-place.result shape.size c.self.inside.bytes.len c.self.inside.bytes.items
    c.self.inside.bytes.items c.put_after.new.bytes (g.S.Schema.text s r) c.self.invariant.words fit.aligned c.aligned-place.ensures.is (λ z. omega (arith, fit.with_epid)) written
    (omega arith) (omega arith)
    (c.put_after.ensures
    ∙ ap (λ z. take c.self.inside.offset z ++ (replicate (c.aligned-place.result - c.self.inside.offset) 0 ++ g.S.Schema.text s r)) c.as_mut_slice-bytes.ensures.value) in
    kept _ _ _ laws c.args.self.now _ (one r) ps h (accepted_alone _ _ _ laws r c.requires.accepted)
    (back ∙ ap (λ z. z ++ padded c.self.inside.offset shape.align (g.S.Schema.text s r)) (ap (λ b. b.text) c.self.view_is)
    ∙ ap (λ z. c.args.self.now.text ++ padded z shape.align (g.S.Schema.text s r)) at
    ∙ ap (λ z. c.args.self.now.text ++ padded (extent (g.S.Schema.shape_of s) ps) z (g.S.Schema.text s r)) (sym says.1))
    (let count = ap (λ b. b.count) c.self.view_is in omega arith)
