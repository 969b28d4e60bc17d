-- No text is longer than what a buffer can reserve.
use Rattle.std.proofs.Common.{arith}
use Rattle.dspec_record.specs.Words.{enabled, enabled-IsLimited, table-shapes_fit, table-texts_fit}
use Rattle.dspec_record.proofs.enabled.EnablingsSchema.put.Goals as goal

pub put_recorded-requires-clause-room : goal.put_recorded-requires-clause-room
put_recorded-requires-clause-room c =
    let s = c.args.self.now in
    let of = table-texts_fit s.header (enabled s.rows) c.args.rec.now c.requires.accepted in
    let shape = table-shapes_fit s.header (enabled s.rows) (enabled-IsLimited s.rows) c.args.rec.now.epid of.shape_is of.has_shape in
    omega (arith, of.size, shape.bounded)
