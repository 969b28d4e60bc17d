use Rattle.dspec_ctf.proofs.Collecting.{one-more}
use Rattle.dspec_ctf.proofs.by_time.collect.Goals as goal

pub loop-number-preserved : goal.loop-number-preserved
loop-number-preserved c =
    one-more c.args.enablings.now (λ text. text.now) c.args.texts.now c.loop-number.number _ c.loop-number.recs.items c.add_text.new.recs.items
    c.loop-number-test.true c.loop-number.invariant c.in_ok-add_text.ensures.added
