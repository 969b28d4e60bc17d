use Rattle.dspec_ctf.proofs.OneStream.{stream-same}
use Rattle.dspec_ctf.proofs.laws.one_stream.Goals as goal

pub returns : goal.returns
returns c = λ uuid missed cpu told other rs qs of_r of_q is. stream-same c.args._enablings.now uuid missed cpu told other rs qs of_r of_q is
