use Rattle.std.proofs.Common.{arith}
use Rattle.dspec_ctf_sink.proofs.OneMore.{told_next}
use Rattle.dspec_ctf_sink.proofs.ending.Untold.tell.Goals as goal

pub loop-cpu-preserved : goal.loop-cpu-preserved
loop-cpu-preserved g c =
    let in_range = c.loop-cpu-test.true in (
      told_next (g.K.Sink.gets c.args.schema.now) c.args.closed.now c.loop-cpu.cpu c.args.sink.now c.loop-cpu.sink c.tell.new.sink (omega arith)
          c.loop-cpu.invariant.0 c.tell.ensures.told,
      c.tell.ensures.bare,
    )
