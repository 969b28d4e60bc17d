use Rattle.std.proofs.Common.{[], ap, ◌∙◌, arith}
use Rattle.std.specs.List.{cons_option}
use Rattle.dspec_ctf_reading.specs.Words.{span_from}
use Rattle.dspec_ctf_reading.proofs.Folders.Counting.{span-more, span-none}
use Rattle.dspec_ctf_reading.proofs.folder.counts.widened.Goals as goal

pub loop-event-init : goal.loop-event-init
loop-event-init c = span-none c.args.before

pub loop-event-preserved : goal.loop-event-preserved
loop-event-preserved c =
    c.with_stamp-span.ensures ∙ ap (λ s. span_from s (cons_option c.event-item.result.stamp [])) c.loop-event.invariant
    ∙ span-more c.args.before c.loop-event.event-index c.args.events.now c.event-item.result (omega arith) c.event-item.is
