use Rattle.std.proofs.Common.{sym}
use Rattle.dspec_buffer.proofs.reader.is_misaligned.Goals as goal

pub is_aligned-requires : goal.is_aligned-requires
is_aligned-requires g c =
    (g.met.S.Schema.shapes_fit c.args.schema.now c.in-Some.epid c.in-Some-shape.shape (sym c.in-Some-shape.ensures)).aligned
