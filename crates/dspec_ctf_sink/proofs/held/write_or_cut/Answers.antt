use Rattle.dspec_ctf_sink.proofs.Cutting.{left-on}
use Rattle.dspec_ctf_sink.proofs.held.write_or_cut.Goals as goal

pub returns-in-Err-cut-clause-fault : goal.returns-in-Err-cut-clause-fault
returns-in-Err-cut-clause-fault g c =
    left-on (g.W.Write.contents c.args.file.now) (g.W.Write.contents c.write_whole.new.file) (g.W.Write.contents c.cut.new.self) c.args.bytes.now
    c.in-Err-write_whole.ensures.begun c.in-Err-cut.ensures.kept
