use Rattle.std.proofs.Common.{◌∙◌, [], length, map, if◌then◌else◌, sym, ap}
use Rattle.std.specs.Prelude.{nat_le}
use Rattle.dspec_cpu_state.specs.Words.{one, reserved, extent, extent_of_records}
use Rattle.dspec_cpu_state.proofs.Ones.{extent_ones, records_ones}
use Rattle.dspec_cpu_state.proofs.blocks.measure.Goals as goal

pub returns-clause-fits : goal.returns-clause-fits
returns-clause-fits g c = λ s ps rs h hb.
    let shape = g.S.Schema.shape_of s in
    c.fits-2.ensures s ps h ∙ ap (λ z. nat_le (reserved (extent shape ps) 8 z) (g.B.TraceBuffer.capacity c.args.active.now))
    (c.offset-size.ensures.extent s (map one rs) hb ∙ (extent_ones shape rs ∙ ap (λ m. extent_of_records shape (if m then rs else [])) (sym c.if-not-mine.false)))

pub returns-clause-count : goal.returns-clause-count
returns-clause-count g c = λ s rs hb. c.count-count.ensures s (map one rs) hb ∙ (ap length (records_ones rs) ∙ ap (λ m. length (if m then rs else [])) (sym c.if-not-mine.false))
