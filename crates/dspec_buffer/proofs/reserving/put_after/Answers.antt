-- A record that knows its text writes it, else the schema does; and that goes over the padding word where there is no padding.
use Rattle.std.proofs.Common.{sym, ◌∙◌, arith}
use Rattle.dspec_buffer.proofs.{Laid.said_text, Overwriting.covered}
use Rattle.dspec_buffer.proofs.reserving.put_after.Goals as goal

pub returns-then-not-put_laid : goal.returns-then-not-put_laid
returns-then-not-put_laid g c =
    covered c.args.from c.args.place c.args.end _ c.args.bytes.now c.copy_from_slice.new.self c.put_recorded.new.out _ c.copy_from_slice.ensures.after c.requires.gap c.requires.end c.requires.room
    (omega (arith, c.requires.end, c.requires.room)) c.put_recorded.ensures

pub returns-else-not-put_laid : goal.returns-else-not-put_laid
returns-else-not-put_laid g c =
    covered c.args.from c.args.place c.args.end _ c.args.bytes.now c.copy_from_slice.new.self c.put_laid.new.out _ c.copy_from_slice.ensures.after c.requires.gap c.requires.end c.requires.room
    (omega (arith, c.requires.end, c.requires.room))
    (said_text (g.S.Schema.shape_of c.args.schema.now) (g.S.Schema.text c.args.schema.now) (g.R.Recorded.as_record c.args.rec)
    (g.R.Recorded.laid_as c.args.rec) c.put_laid.new.out c.requires.laid (sym c.put_laid.ensures.due ∙ c.if-not-put_laid.false) c.put_laid.ensures.put)
