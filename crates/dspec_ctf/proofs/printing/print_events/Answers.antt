use Rattle.std.proofs.Common.{◌++◌, length, string_bytes}
use Rattle.std.specs.List.{flat_map, range_with_len}
use Rattle.dspec_ctf.specs.Words.{event_text}
use Rattle.dspec_ctf.proofs.Ranges.{range-piece}
use Rattle.dspec_ctf.proofs.printing.print_events.Goals as goal

pub loop-place-preserved : goal.loop-place-preserved
loop-place-preserved c =
    let f = event_text c.args.form c.args.enablings.now c.args.names.now in
    let n = length c.args.enablings.now.rows in
    range-piece f c.loop-place.place n (string_bytes c.loop-place.text) (string_bytes c.print_event.new.text)
    (string_bytes c.args.text.now ++ flat_map f (range_with_len 0 n))
    (rw c.count-place-end.ensures.count at c.loop-place-test.true) c.loop-place.invariant c.in_ok-print_event.ensures
