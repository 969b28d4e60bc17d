use Rattle.dspec_ctf_sink.proofs.Cutting.{appends-more}
use Rattle.dspec_ctf_sink.proofs.held.write_whole.Goals as goal

pub loop-preserved : goal.loop-preserved
loop-preserved g c = (
  c.in_ok-at.ensures.within.1,
  appends-more (g.W.Write.contents c.args.file.now) (g.W.Write.contents c.loop.file) (g.W.Write.contents c.write_from.new.file) c.args.bytes.now c.loop.at c.in_ok-at.at
      c.in_ok-at.ensures.within.0 c.loop.invariant.1 c.in_ok-at.ensures.written,
)
