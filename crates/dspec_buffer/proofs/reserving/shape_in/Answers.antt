use Rattle.std.proofs.Common.{sym, ◌∙◌}
use Rattle.dspec_buffer.proofs.Laid.{said_shape}
use Rattle.dspec_buffer.proofs.reserving.shape_in.Goals as goal

pub returns-in-Some : goal.returns-in-Some
returns-in-Some g c =
    said_shape (g.S.Schema.shape_of c.args.schema.now) (g.S.Schema.text c.args.schema.now) (g.R.Recorded.as_record c.args.rec) (g.R.Recorded.laid_as c.args.rec) c.in-Some.shape
    c.requires.laid (sym c.laid_shape.ensures ∙ c.in-Some.is)
