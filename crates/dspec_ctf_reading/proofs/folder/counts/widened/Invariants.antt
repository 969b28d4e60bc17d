use Rattle.std.proofs.Common.{◌≡◌, take}
use Rattle.std.specs.List.{filter_map}
use Rattle.dspec_ctf_reading.specs.Words.{span_from}
use Rattle.dspec_ctf_reading.proofs.folder.counts.widened.Given as goal

abbrev pub invariant-loop-event : goal.invariant-loop-event
invariant-loop-event l = l.span ≡ span_from l.fn.before (filter_map (λ e. e.stamp) (take l.event-index l.events))
