use Rattle.std.proofs.Common.{◌≡◌, ◌++◌, ◌-◌, true, false, inr, ap, refl, sym, ◌∙◌, arith, length, take, replicate}
use Rattle.std.proofs.lemmas.List.{length-take-le}
use Rattle.dspec_buffer.specs.Words.{block, extent, padded}
use Rattle.dspec_buffer.proofs.{Fitting.refuses, Fitting.admits, Fitting.admits_none, Fitting.laid_back, Keeping.reaches, Keeping.fits_says, Keeping.kept, Keeping.block_of, Keeping.block_reaches}
use Rattle.dspec_buffer.proofs.{Keeping.kept_empty, SchemaLaws.laws_from}
use Rattle.dspec_buffer.proofs.byte_buffer.ByteBufferTraceBuffer.push_block.Goals as goal

pub returns-then-size-eq0-clause-answer : goal.returns-then-size-eq0-clause-answer
returns-then-size-eq0-clause-answer g c = λ s ps rs h k.
    let laws = laws_from (g.met.S.Schema.zero_has_none s) (g.met.S.Schema.shapes_fit s) (g.met.S.Schema.texts_fit s) (g.met.S.Schema.texts_differ s) in
    let at = reaches _ _ _ laws c.self.inside c.args.self.now ps c.self.invariant c.self.view_is h in
    let reach = block_reaches _ _ _ laws c.other.inside c.args.other.now rs c.other.invariant c.other.view_is k in
    fits_says (g.S.Schema.shape_of s) (block rs) ps c.self.inside.offset 8 0 c.args.self.now.size c.args.self.now.size true at refl (reach ∙ c.if-size-eq0.true) refl
    (admits_none c.self.inside.offset 8 0 c.args.self.now.size refl (omega (arith, c.self.invariant.within, ap (λ b. b.size) c.self.view_is)))

pub returns-then-size-eq0-clause-kept : goal.returns-then-size-eq0-clause-kept
returns-then-size-eq0-clause-kept g c = λ s ps rs h k.
    let laws = laws_from (g.met.S.Schema.zero_has_none s) (g.met.S.Schema.shapes_fit s) (g.met.S.Schema.texts_fit s) (g.met.S.Schema.texts_differ s) in
    let at = reaches _ _ _ laws c.self.inside c.args.self.now ps c.self.invariant c.self.view_is h in
    let reach = block_reaches _ _ _ laws c.other.inside c.args.other.now rs c.other.invariant c.other.view_is k in
    kept_empty _ _ _ laws c.args.self.now c.args.other.now ps rs h k (reach ∙ c.if-size-eq0.true)

pub returns-in_default-clause-answer : goal.returns-in_default-clause-answer
returns-in_default-clause-answer g c = λ s ps rs h k.
    let laws = laws_from (g.met.S.Schema.zero_has_none s) (g.met.S.Schema.shapes_fit s) (g.met.S.Schema.texts_fit s) (g.met.S.Schema.texts_differ s) in
    let at = reaches _ _ _ laws c.self.inside c.args.self.now ps c.self.invariant c.self.view_is h in
    let reach = block_reaches _ _ _ laws c.other.inside c.args.other.now rs c.other.invariant c.other.view_is k in
    fits_says (g.S.Schema.shape_of s) (block rs) ps c.self.inside.offset 8 c.other.inside.offset c.size.result c.args.self.now.size false at refl reach c.size.ensures
    (refuses c.self.inside.offset 8 c.other.inside.offset c.size.result c.if-size-eq0.false c.in_default.ensures)

pub returns-clause-answer : goal.returns-clause-answer
returns-clause-answer g c = λ s ps rs h k.
    let laws = laws_from (g.met.S.Schema.zero_has_none s) (g.met.S.Schema.shapes_fit s) (g.met.S.Schema.texts_fit s) (g.met.S.Schema.texts_differ s) in
    let at = reaches _ _ _ laws c.self.inside c.args.self.now ps c.self.invariant c.self.view_is h in
    let reach = block_reaches _ _ _ laws c.other.inside c.args.other.now rs c.other.invariant c.other.view_is k in
    fits_says (g.S.Schema.shape_of s) (block rs) ps c.self.inside.offset 8 c.other.inside.offset c.size.result c.args.self.now.size true at refl reach c.size.ensures
    (admits c.self.inside.offset 8 c.other.inside.offset c.size.result c.in-Some.place c.if-size-eq0.false c.in-Some.ensures.0 c.in-Some.ensures.1)

pub returns-clause-kept : goal.returns-clause-kept
returns-clause-kept g c = λ s ps rs h k.
    let laws = laws_from (g.met.S.Schema.zero_has_none s) (g.met.S.Schema.shapes_fit s) (g.met.S.Schema.texts_fit s) (g.met.S.Schema.texts_differ s) in
    let size = ap (λ b. b.size) c.self.view_is in
    let at = reaches _ _ _ laws c.self.inside c.args.self.now ps c.self.invariant c.self.view_is h in
    let reach = block_reaches _ _ _ laws c.other.inside c.args.other.now rs c.other.invariant c.other.view_is k in
    let f = block_of _ _ _ laws c.args.other.now rs k in
    let limit = c.size.ensures in
    let fitting = c.in-Some.ensures.1 in
    let slice = c.as_mut_slice-bytes.ensures.len in
    let copied : c.copy_from_slice.new.self ≡ c.args.other.now.text = c.copy_from_slice.ensures.after ∙ c.bytes.ensures in
    let written : length c.copy_from_slice.new.self ≡ c.other.inside.offset =
    ap length (copied ∙ sym (ap (λ b. b.text) c.other.view_is))
    ∙ length-take-le c.other.inside.offset c.other.inside.bytes.items (omega (arith, c.other.invariant.within, c.other.invariant.slack, c.other.inside.bytes.ok.0)) in
    let back = laid_back c.self.inside.offset 8 c.in-Some.place c.other.inside.offset c.self.inside.bytes.len c.self.inside.bytes.items c.self.inside.bytes.items
    c.pad.new.bytes c.copy_from_slice.new.self c.self.invariant.words (inr refl) c.in-Some.ensures.0 c.if-size-eq0.false written (omega arith) (omega arith)
    (c.pad.ensures ∙ ap (λ z. take c.self.inside.offset z ++ replicate (c.in-Some.place - c.self.inside.offset) 0) c.as_mut_slice-bytes.ensures.value) in
    kept _ _ _ laws c.args.self.now _ (block rs) ps h f.all_accepted (back ∙ ap (λ z. z ++ padded c.self.inside.offset 8 c.copy_from_slice.new.self) (ap (λ b. b.text) c.self.view_is)
    ∙ ap (λ z. c.args.self.now.text ++ padded z 8 c.copy_from_slice.new.self) at ∙ ap (λ z. c.args.self.now.text ++ padded (extent (g.S.Schema.shape_of s) ps) 8 z) (copied ∙ f.text_is))
    (let count = ap (λ b. b.count) c.self.view_is in let count' = ap (λ b. b.count) c.other.view_is in let own = f.count_is in omega arith)
