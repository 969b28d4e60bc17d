use Rattle.dspec_ctf_reading.proofs.Shorter.{packet-split}
use Rattle.dspec_ctf_reading.proofs.laws.packet_is_split.Goals as goal

pub returns : goal.returns
returns c = λ layout bytes. packet-split layout bytes
