-- One field more is written.
use Rattle.dspec_probe.proofs.Shown.{fields-more}
use Rattle.dspec_probe.proofs.telling.ToldDisplay.fmt.Goals as goal

pub loop-place-preserved : goal.loop-place-preserved
loop-place-preserved g c = λ plain. fields-more g.W.Write.write_str_gives c.args.self.now c.loop-place.place c.field-field.result.name.now
    c.field-field.result.meaning c.write.new.self c.loop-place.f c.write-in-loop-place.new.self c.field-field.ensures.name c.field-field.ensures.meaning
    (c.loop-place.invariant plain) c.in_ok-write-2.ensures.writes
