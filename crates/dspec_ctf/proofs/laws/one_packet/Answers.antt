use Rattle.dspec_ctf.proofs.OneList.{packet-same}
use Rattle.dspec_ctf.proofs.laws.one_packet.Goals as goal

pub returns : goal.returns
returns c = λ uuid missed cpu told other rs qs of_r of_q is. packet-same c.args._enablings.now uuid missed cpu told other rs qs of_r of_q is
