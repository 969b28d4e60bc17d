use Rattle.std.proofs.Common.{length}
use Rattle.dspec_ctf_reading.proofs.folder.whole.has_header.Given as goal

abbrev pub decreases-loop-next : goal.decreases-loop-next
decreases-loop-next l = length l.rest
