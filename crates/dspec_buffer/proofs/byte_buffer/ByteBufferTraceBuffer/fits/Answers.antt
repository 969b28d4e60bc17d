use Rattle.std.proofs.Common.{◌≡◌, ap, refl, ◌∙◌, subst, nat_le, arith}
use Rattle.dspec_buffer.specs.Words.{reserved, extent}
use Rattle.dspec_buffer.proofs.{Fitting.admits_none, Fitting.answers, Keeping.reaches, SchemaLaws.laws_from}
use Rattle.dspec_buffer.proofs.byte_buffer.ByteBufferTraceBuffer.fits.Goals as goal

pub returns-then-size-eq0 : goal.returns-then-size-eq0
returns-then-size-eq0 g c = λ s ps h.
    let laws = laws_from (g.met.S.Schema.zero_has_none s) (g.met.S.Schema.shapes_fit s) (g.met.S.Schema.texts_fit s) (g.met.S.Schema.texts_differ s) in
    let at = reaches _ _ _ laws c.self.inside c.args.self.now ps c.self.invariant c.self.view_is h in
    rw c.if-size-eq0.true (admits_none (extent (g.S.Schema.shape_of s) ps) c.args.align 0 c.args.self.now.size refl (omega (arith, at, c.self.invariant.within, ap (λ b. b.size) c.self.view_is)))

pub returns-else-size-eq0 : goal.returns-else-size-eq0
returns-else-size-eq0 g c = λ s ps h.
    let laws = laws_from (g.met.S.Schema.zero_has_none s) (g.met.S.Schema.shapes_fit s) (g.met.S.Schema.texts_fit s) (g.met.S.Schema.texts_differ s) in
    let at = reaches _ _ _ laws c.self.inside c.args.self.now ps c.self.invariant c.self.view_is h in
    let told = c.is_some.ensures ∙ answers c.self.inside.offset c.args.align c.args.size c.size.result c.place_for.result c.if-size-eq0.false c.place_for.ensures in
    subst (λ z. c.is_some.result ≡ nat_le (reserved (extent (g.S.Schema.shape_of s) ps) c.args.align c.args.size) z) c.size.ensures
    (subst (λ z. c.is_some.result ≡ nat_le (reserved z c.args.align c.args.size) c.size.result) at told)
