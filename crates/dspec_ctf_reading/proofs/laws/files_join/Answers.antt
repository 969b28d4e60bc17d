use Rattle.std.proofs.Common.{length, arith}
use Rattle.dspec_ctf_reading.proofs.Joining.{join}
use Rattle.dspec_ctf_reading.proofs.laws.files_join.Goals as goal

pub returns : goal.returns
returns c = λ layout a b ps qs first second. join layout (length a) a b ps qs (omega arith) first second
