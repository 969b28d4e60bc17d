use Rattle.dspec_ctf.proofs.Rising.{files-rise}
use Rattle.dspec_ctf.proofs.laws.files_rise.Goals as goal

pub returns : goal.returns
returns c = λ lasts rs files new is file. files-rise lasts rs files new is file
