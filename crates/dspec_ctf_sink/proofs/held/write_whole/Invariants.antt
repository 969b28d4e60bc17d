use Rattle.std.proofs.Common.{◌≤◌, length, take}
use Rattle.std.specs.Io.KnownBytes.{Appends}
use Rattle.dspec_ctf_sink.proofs.held.write_whole.Given as goal

abbrev pub invariant-loop : goal.invariant-loop
invariant-loop g l = (l.at ≤ length l.bytes) × Appends (g.W.Write.contents l.fn.file) (g.W.Write.contents l.file) (take l.at l.bytes)
