use Rattle.std.proofs.Common.{length}
use Rattle.dspec_ctf_reading.proofs.folder.mark.marks_of.Given as goal

abbrev pub decreases-loop-rest : goal.decreases-loop-rest
decreases-loop-rest l = length l.rest
