use Rattle.std.proofs.Common.{◌∙◌, ◌&&◌, not, sym, ap}
use Rattle.dspec_cpu_state.specs.Words.{one, piece_fits, is_closed, active}
use Rattle.dspec_cpu_state.proofs.Rooms.{after_fits}
use Rattle.dspec_cpu_state.proofs.cpu_state.CpuState.fits.Goals as goal

pub fits-requires : goal.fits-requires
fits-requires g c = (g.met.S.Schema.shapes_fit c.args.schema.now c.epid.result c.in-Some.shape (sym c.shape.ensures ∙ c.in-Some.is)).aligned

pub returns-then-fits : goal.returns-then-fits
returns-then-fits g c = λ cpu p shown.
    let side = c.args.self.now in
    let shape = g.S.Schema.shape_of c.args.schema.now in
    let r = g.R.Recorded.as_record c.args.rec in
    let is = ap shape (sym c.epid.ensures) ∙ (sym c.shape.ensures ∙ c.in-Some.is) in
    let room = ap (piece_fits shape (active cpu p) (one r)) (sym shown.parts.principal.sized)
    ∙ (sym (after_fits shape r c.in-Some.shape _ is (active cpu p)) ∙ (sym (c.fits.ensures c.args.schema.now (active cpu p) shown.parts.principal.has) ∙ c.if-fits.true)) in
    ap not (c.is_closed.ensures cpu side.counts.worn p shown.counted) ∙ ap (λ b. b && not (is_closed c.args.config.now cpu p)) (sym room)

pub returns-else-fits : goal.returns-else-fits
returns-else-fits g c = λ cpu p shown.
    let shape = g.S.Schema.shape_of c.args.schema.now in
    let r = g.R.Recorded.as_record c.args.rec in
    let is = ap shape (sym c.epid.ensures) ∙ (sym c.shape.ensures ∙ c.in-Some.is) in
    let room = ap (piece_fits shape (active cpu p) (one r)) (sym shown.parts.principal.sized)
    ∙ (sym (after_fits shape r c.in-Some.shape _ is (active cpu p)) ∙ (sym (c.fits.ensures c.args.schema.now (active cpu p) shown.parts.principal.has) ∙ c.if-fits.false)) in
    c.if-fits.false ∙ ap (λ b. b && not (is_closed c.args.config.now cpu p)) (sym room)
