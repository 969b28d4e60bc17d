use Rattle.std.proofs.Common.{string_bytes}
use Rattle.dspec_replay.specs.Words.{buffer_lines}
use Rattle.dspec_replay.proofs.Growing.{one_more}
use Rattle.dspec_replay.proofs.showing.print_buffers.Goals as goal

pub loop-buffer-preserved : goal.loop-buffer-preserved
loop-buffer-preserved c = one_more (buffer_lines c.args.header c.args.cpu) (string_bytes c.args.text.now) _ _ c.as_slice-buffer-items.result.now c.loop-buffer.buffer-index _ _
    c.loop-buffer-test.true c.buffer-item.is c.loop-buffer.invariant c.in_ok-print_buffer.ensures
