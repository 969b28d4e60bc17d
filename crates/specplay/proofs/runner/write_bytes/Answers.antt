-- A write leaves the text written up to the rest, whatever it took.
use Rattle.std.proofs.Common.{sym, ap, subst}
use Rattle.specplay.specs.Words.{AppendsBefore}
use Rattle.specplay.proofs.{WritingLemmas.piece_written, WritingLemmas.rest_kept, runner.write_bytes.Goals.in-Ok, runner.write_bytes.Goals.in-Err+else-ne}
use Rattle.specplay.proofs.runner.write_bytes.Goals as goal

pub loop-preserved : goal.loop-preserved
loop-preserved g c = elim c.match-write.branch [
  | in-Ok w ↦ rw (w.rest-is, w.split_at.ensures.back) (piece_written _ _ _ _ _ _ c.loop.invariant w.in-Ok.ensures.bytes)
  | in-Err+else-ne w ↦ rw w.rest-is (rest_kept _ _ _ _ _ c.loop.invariant w.in-Err.ensures.bytes)
]
