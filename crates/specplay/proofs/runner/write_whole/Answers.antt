-- The whole text was written before the flush failed.
use Rattle.std.proofs.Common.{subst}
use Rattle.std.specs.Io.KnownBytes.{Appends}
use Rattle.specplay.proofs.WritingLemmas.{whole_before}
use Rattle.specplay.proofs.runner.write_whole.Goals as goal

pub returns-in-Err-clause-cut_off : goal.returns-in-Err-clause-cut_off
returns-in-Err-clause-cut_off g c =
    whole_before _ _ _ c.args.text.now
    (subst (Appends (g.W.Write.contents c.args.output.now) (g.W.Write.contents c.write_bytes.new.output)) c.as_bytes.ensures.value c.in_ok-write_bytes.ensures.ok)
    c.flush.ensures.bytes
