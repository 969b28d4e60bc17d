use Rattle.dspec_ctf.proofs.Rising.{files-have-all}
use Rattle.dspec_ctf.proofs.laws.files_have_all.Goals as goal

pub returns : goal.returns
returns c = λ lasts rs files new few is. files-have-all lasts rs files new few is
