use Rattle.std.proofs.Common.{◌++◌, true, false, inr, ap, refl, sym, ◌∙◌, arith}
use Rattle.dspec_buffer.specs.Words.{block, extent, reserved}
use Rattle.dspec_buffer.proofs.{Fitting.refuses, Fitting.admits, Fitting.admits_none, Fitting.placed, Keeping.fits_says, Listing.listed, Listing.listed_block, Listing.listed_empty}
use Rattle.dspec_buffer.proofs.list_buffer.ListBufferTraceBuffer.push_block.Goals as goal

pub returns-then-size-eq0-clause-answer : goal.returns-then-size-eq0-clause-answer
returns-then-size-eq0-clause-answer g c = λ s ps rs h k.
    let f = listed_block (g.S.Schema.shape_of s) (g.S.Schema.accepted s) (g.S.Schema.text s) c.args.other.now rs k in
    let at = ap (λ b. b.offset) c.self.view_is ∙ h.offset_is in
    let reach = f.size_is ∙ sym (ap (λ b. b.offset) c.other.view_is) in
    let size = ap (λ b. b.size) c.self.view_is in
    let within = c.self.invariant.within in
    fits_says (g.S.Schema.shape_of s) (block rs) ps c.self.inside.offset 8 0 c.args.self.now.size c.args.self.now.size true at refl (reach ∙ c.if-size-eq0.true) refl
    (admits_none c.self.inside.offset 8 0 c.args.self.now.size refl (omega arith))

pub returns-then-size-eq0-clause-kept : goal.returns-then-size-eq0-clause-kept
returns-then-size-eq0-clause-kept g c = λ s ps rs h k.
    let counted = c.other.invariant.counted in
    let none = c.if-size-eq0.true in
    let count = ap (λ b. b.count) c.other.view_is in
    listed_empty (g.S.Schema.shape_of s) (g.S.Schema.accepted s) (g.S.Schema.text s) c.args.self.now c.args.other.now ps rs h k
    (sym (ap (λ b. b.offset) c.other.view_is) ∙ c.if-size-eq0.true) (omega arith)

pub returns-in_default-clause-answer : goal.returns-in_default-clause-answer
returns-in_default-clause-answer g c = λ s ps rs h k.
    let f = listed_block (g.S.Schema.shape_of s) (g.S.Schema.accepted s) (g.S.Schema.text s) c.args.other.now rs k in
    let at = ap (λ b. b.offset) c.self.view_is ∙ h.offset_is in
    let reach = f.size_is ∙ sym (ap (λ b. b.offset) c.other.view_is) in
    fits_says (g.S.Schema.shape_of s) (block rs) ps c.self.inside.offset 8 c.other.inside.offset c.self.inside.size c.args.self.now.size false at refl reach (ap (λ b. b.size) c.self.view_is)
    (refuses c.self.inside.offset 8 c.other.inside.offset c.self.inside.size c.if-size-eq0.false c.in_default.ensures)

pub returns-clause-answer : goal.returns-clause-answer
returns-clause-answer g c = λ s ps rs h k.
    let f = listed_block (g.S.Schema.shape_of s) (g.S.Schema.accepted s) (g.S.Schema.text s) c.args.other.now rs k in
    let at = ap (λ b. b.offset) c.self.view_is ∙ h.offset_is in
    let reach = f.size_is ∙ sym (ap (λ b. b.offset) c.other.view_is) in
    fits_says (g.S.Schema.shape_of s) (block rs) ps c.self.inside.offset 8 c.other.inside.offset c.self.inside.size c.args.self.now.size true at refl reach (ap (λ b. b.size) c.self.view_is)
    (admits c.self.inside.offset 8 c.other.inside.offset c.self.inside.size c.in-Some.place c.if-size-eq0.false c.in-Some.ensures.0 c.in-Some.ensures.1)

pub returns-clause-kept : goal.returns-clause-kept
returns-clause-kept g c = λ s ps rs h k.
    let f = listed_block (g.S.Schema.shape_of s) (g.S.Schema.accepted s) (g.S.Schema.text s) c.args.other.now rs k in
    let at = ap (λ b. b.offset) c.self.view_is ∙ h.offset_is in
    let reach = f.size_is ∙ sym (ap (λ b. b.offset) c.other.view_is) in
    let p = placed c.self.inside.offset 8 c.other.inside.offset c.in-Some.place c.self.invariant.words (inr refl) c.other.invariant.words c.if-size-eq0.false c.in-Some.ensures.0 in
    let items = rw c.unwrap.ensures at c.extend_from_slice.ensures.items in
    let count = ap (λ b. b.count) c.self.view_is in
    let more = f.count_is in
    let other = ap (λ b. b.count) c.other.view_is in
    listed (g.S.Schema.shape_of s) (g.S.Schema.accepted s) (g.S.Schema.text s) c.args.self.now _ (block rs) ps h (record {
      all_accepted = f.all_accepted;
      texts_are = items ∙ ap (λ b. b.texts ++ c.deref.result.now) c.self.view_is ∙ ap (λ z. c.args.self.now.texts ++ z) (c.deref.ensures.value ∙ ap (λ b. b.texts) c.other.view_is ∙ f.texts_are);
      count_is = omega arith;
      offset_is = p.end_is ∙ ap (λ z. reserved z 8 c.other.inside.offset) at ∙ ap (λ z. reserved (extent (g.S.Schema.shape_of s) ps) 8 z) (sym reach);
    })
