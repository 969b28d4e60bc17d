-- What was counted is what the packets before the rest add.
use Rattle.std.proofs.Common.{length}
use Rattle.dspec_ctf_reading.specs.Words.{told_layout}
use Rattle.dspec_ctf_reading.proofs.Folders.Counting.{CountedTo}
use Rattle.dspec_ctf_reading.proofs.folder.counts.count_file.Given as goal

abbrev pub invariant-loop-rest : goal.invariant-loop-rest
invariant-loop-rest l = CountedTo (told_layout l.metadata) l.bytes l.rest l.fn.counts l.counts

abbrev pub decreases-loop-rest : goal.decreases-loop-rest
decreases-loop-rest l = length l.rest
