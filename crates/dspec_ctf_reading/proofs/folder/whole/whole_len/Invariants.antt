-- What was split off is whole packets, and the rest is what stands after them.
use Rattle.std.proofs.Common.{length}
use Rattle.dspec_ctf_reading.specs.Words.{AreWholeBefore}
use Rattle.dspec_ctf_reading.proofs.Folders.Splitting.{IsTail}
use Rattle.dspec_ctf_reading.proofs.folder.whole.whole_len.Given as goal

abbrev pub invariant-loop-packet : goal.invariant-loop-packet
invariant-loop-packet l = record {
  whole : AreWholeBefore l.timed l.bytes l.rest;
  tail : IsTail l.bytes l.rest;
}

abbrev pub decreases-loop-packet : goal.decreases-loop-packet
decreases-loop-packet l = length l.rest
