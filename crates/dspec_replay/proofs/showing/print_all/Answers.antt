use Rattle.std.proofs.Common.{string_bytes}
use Rattle.dspec_replay.specs.Words.{cpu_buffers}
use Rattle.dspec_replay.proofs.Growing.{one_more_numbered}
use Rattle.dspec_replay.proofs.showing.print_all.Goals as goal

pub loop-cpu-preserved : goal.loop-cpu-preserved
loop-cpu-preserved c = one_more_numbered (cpu_buffers c.args.header) (string_bytes c.args.text.now) _ _ c.args.all.now c.loop-cpu.cpu _ _
    c.loop-cpu-test.true c.index-all-cpu.is c.loop-cpu.invariant c.in_ok-print_buffers.ensures
