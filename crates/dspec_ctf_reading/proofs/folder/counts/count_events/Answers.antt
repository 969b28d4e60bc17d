use Rattle.std.proofs.{Common.arith, lemmas.Grind.common_steps, lemmas.List.Sums.count_by_more_no, lemmas.List.Sums.count_by_more_yes}
use Rattle.dspec_ctf_reading.proofs.folder.counts.count_events.Goals as goal

pub loop-event-preserved : goal.loop-event-preserved
loop-event-preserved c = λ place. grind (arith, common_steps, count_by_more_yes, count_by_more_no, c.loop-event.invariant place)
