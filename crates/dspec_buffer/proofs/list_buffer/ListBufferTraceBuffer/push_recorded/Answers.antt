use Rattle.std.proofs.{Common.◌≡◌, Common.◌++◌, Common.length, Common.true, Common.false, Common.ap, Common.sym, Common.◌∙◌, Common.arith, lemmas.List.length-take-le}
use Rattle.dspec_buffer.specs.Words.{one, extent, reserved, piece_align}
use Rattle.dspec_buffer.proofs.{Fitting.refuses, Fitting.admits, Fitting.placed, Keeping.fits_says, Keeping.shape_says, Listing.listed, Listing.one_accepted, Listing.one_text, SchemaLaws.laws_from}
use Rattle.dspec_buffer.proofs.{Texts.text_facts}
use Rattle.dspec_buffer.proofs.list_buffer.ListBufferTraceBuffer.push_recorded.Goals as goal

pub place_for-requires-clause-aligned : goal.place_for-requires-clause-aligned
place_for-requires-clause-aligned g c =
    (g.met.S.Schema.shapes_fit c.args.schema.now _ _ (sym c.shape_recorded-shape.ensures)).aligned

pub slice_bounds-room-end : goal.slice_bounds-room-end
slice_bounds-room-end g c =
    (g.met.S.Schema.shapes_fit c.args.schema.now _ _ (sym c.shape_recorded-shape.ensures)).bounded

pub slice_bounds-text-end : goal.slice_bounds-text-end
slice_bounds-text-end g c =
    sym (length-take-le c.shape_recorded-shape.result.size _ (g.met.S.Schema.shapes_fit c.args.schema.now _ _ (sym c.shape_recorded-shape.ensures)).bounded)

pub put-requires-clause-exact : goal.put-requires-clause-exact
put-requires-clause-exact g c =
    let s = c.args.schema.now in
    let r = g.R.Recorded.as_record c.args.rec in
    let fit = g.met.S.Schema.shapes_fit s _ _ (sym c.shape_recorded-shape.ensures) in
    let laws = laws_from (g.met.S.Schema.zero_has_none s) (g.met.S.Schema.shapes_fit s) (g.met.S.Schema.texts_fit s) (g.met.S.Schema.texts_differ s) in
    let says = shape_says (g.S.Schema.shape_of s) r _ (sym c.shape_recorded-shape.ensures) in
    let t = text_facts _ _ _ laws r c.requires.accepted in
    length-take-le c.shape_recorded-shape.result.size _ fit.bounded ∙ sym (ap (λ q. length (g.S.Schema.text s q)) c.to_rec.ensures ∙ t.size ∙ says.0)

pub put-requires-clause-accepted : goal.put-requires-clause-accepted
put-requires-clause-accepted g c = ap (g.S.Schema.accepted c.args.schema.now) c.to_rec.ensures ∙ c.requires.accepted

pub unwrap-requires : goal.unwrap-requires
unwrap-requires g c =
    let s = c.args.schema.now in
    let r = g.R.Recorded.as_record c.args.rec in
    let fit = g.met.S.Schema.shapes_fit s _ _ (sym c.shape_recorded-shape.ensures) in
    let laws = laws_from (g.met.S.Schema.zero_has_none s) (g.met.S.Schema.shapes_fit s) (g.met.S.Schema.texts_fit s) (g.met.S.Schema.texts_differ s) in
    let says = shape_says (g.S.Schema.shape_of s) r _ (sym c.shape_recorded-shape.ensures) in
    let t = text_facts _ _ _ laws r c.requires.accepted in
    let written : length c.put.new.out ≡ c.shape_recorded-shape.result.size = ap length (c.put.ensures ∙ ap (g.S.Schema.text s) c.to_rec.ensures) ∙ t.size ∙ says.0 in
    let p = placed c.self.inside.offset c.shape_recorded-shape.result.align c.shape_recorded-shape.result.size c.in-Some.place c.self.invariant.words fit.aligned fit.whole_words
    (λ z. omega (arith, fit.with_epid)) c.in-Some.ensures.0 in
    let above = p.above in
    let fitting = c.in-Some.ensures.1 in
    let packed = c.self.invariant.packed in
    let room = c.self.invariant.room in
    c.extend_from_slice.ensures.succeeds (omega arith)

pub invariant_of-self : goal.invariant_of-self
invariant_of-self g c =
    let s = c.args.schema.now in
    let r = g.R.Recorded.as_record c.args.rec in
    let fit = g.met.S.Schema.shapes_fit s _ _ (sym c.shape_recorded-shape.ensures) in
    let laws = laws_from (g.met.S.Schema.zero_has_none s) (g.met.S.Schema.shapes_fit s) (g.met.S.Schema.texts_fit s) (g.met.S.Schema.texts_differ s) in
    let says = shape_says (g.S.Schema.shape_of s) r _ (sym c.shape_recorded-shape.ensures) in
    let t = text_facts _ _ _ laws r c.requires.accepted in
    let written : length c.put.new.out ≡ c.shape_recorded-shape.result.size = ap length (c.put.ensures ∙ ap (g.S.Schema.text s) c.to_rec.ensures) ∙ t.size ∙ says.0 in
    let p = placed c.self.inside.offset c.shape_recorded-shape.result.align c.shape_recorded-shape.result.size c.in-Some.place c.self.invariant.words fit.aligned fit.whole_words
    (λ z. omega (arith, fit.with_epid)) c.in-Some.ensures.0 in
    let above = p.above in
    let fitting = c.in-Some.ensures.1 in
    let packed = c.self.invariant.packed in
    let room = c.self.invariant.room in
    let counted = c.self.invariant.counted in
    let more = rw c.unwrap.ensures at c.extend_from_slice.ensures.len in
    let grown = c.extend_from_slice.ensures.capacity in
    record { within = fitting; words = p.words; bounded = c.self.invariant.bounded; counted = omega arith; packed = omega arith; room = omega arith }

pub returns-in_default-clause-answer : goal.returns-in_default-clause-answer
returns-in_default-clause-answer g c = λ ps h.
    let s = c.args.schema.now in
    let r = g.R.Recorded.as_record c.args.rec in
    let says = shape_says (g.S.Schema.shape_of s) r _ (sym c.shape_recorded-shape.ensures) in
    let fit = g.met.S.Schema.shapes_fit s _ _ (sym c.shape_recorded-shape.ensures) in
    let at = ap (λ b. b.offset) c.self.view_is ∙ h.offset_is in
    fits_says (g.S.Schema.shape_of s) (one r) ps c.self.inside.offset c.shape_recorded-shape.result.align c.shape_recorded-shape.result.size c.self.inside.size
    c.args.self.now.size false at says.1 says.0 (ap (λ b. b.size) c.self.view_is)
    (refuses c.self.inside.offset c.shape_recorded-shape.result.align c.shape_recorded-shape.result.size c.self.inside.size (λ z. omega (arith, fit.with_epid)) c.in_default.ensures)

pub returns-clause-answer : goal.returns-clause-answer
returns-clause-answer g c = λ ps h.
    let s = c.args.schema.now in
    let r = g.R.Recorded.as_record c.args.rec in
    let says = shape_says (g.S.Schema.shape_of s) r _ (sym c.shape_recorded-shape.ensures) in
    let fit = g.met.S.Schema.shapes_fit s _ _ (sym c.shape_recorded-shape.ensures) in
    let at = ap (λ b. b.offset) c.self.view_is ∙ h.offset_is in
    fits_says (g.S.Schema.shape_of s) (one r) ps c.self.inside.offset c.shape_recorded-shape.result.align c.shape_recorded-shape.result.size c.self.inside.size
    c.args.self.now.size true at says.1 says.0 (ap (λ b. b.size) c.self.view_is)
    (admits c.self.inside.offset c.shape_recorded-shape.result.align c.shape_recorded-shape.result.size c.self.inside.size c.in-Some.place
    (λ z. omega (arith, fit.with_epid)) c.in-Some.ensures.0 c.in-Some.ensures.1)

pub returns-clause-kept : goal.returns-clause-kept
returns-clause-kept g c = λ ps h.
    let s = c.args.schema.now in
    let r = g.R.Recorded.as_record c.args.rec in
    let says = shape_says (g.S.Schema.shape_of s) r _ (sym c.shape_recorded-shape.ensures) in
    let fit = g.met.S.Schema.shapes_fit s _ _ (sym c.shape_recorded-shape.ensures) in
    let at = ap (λ b. b.offset) c.self.view_is ∙ h.offset_is in
    let p = placed c.self.inside.offset c.shape_recorded-shape.result.align c.shape_recorded-shape.result.size c.in-Some.place c.self.invariant.words fit.aligned fit.whole_words
    (λ z. omega (arith, fit.with_epid)) c.in-Some.ensures.0 in
    let items = rw c.unwrap.ensures at c.extend_from_slice.ensures.items in
    let count = ap (λ b. b.count) c.self.view_is in
    listed (g.S.Schema.shape_of s) (g.S.Schema.accepted s) (g.S.Schema.text s) c.args.self.now _ (one r) ps h (record {
      all_accepted = one_accepted (g.S.Schema.shape_of s) (g.S.Schema.accepted s) (g.S.Schema.text s) r c.requires.accepted;
      texts_are = items ∙ ap (λ b. b.texts ++ c.put.new.out) c.self.view_is ∙ ap (λ z. c.args.self.now.texts ++ z)
          (c.put.ensures ∙ ap (g.S.Schema.text s) c.to_rec.ensures ∙ sym (one_text (g.S.Schema.shape_of s) (g.S.Schema.accepted s) (g.S.Schema.text s) r));
      count_is = omega arith;
      offset_is = p.end_is ∙ ap (λ z. reserved z c.shape_recorded-shape.result.align c.shape_recorded-shape.result.size) at
          ∙ ap (λ z. reserved (extent (g.S.Schema.shape_of s) ps) z c.shape_recorded-shape.result.size) (sym says.1)
          ∙ ap (λ z. reserved (extent (g.S.Schema.shape_of s) ps) (piece_align (g.S.Schema.shape_of s) (one r)) z) (sym says.0);
    })
