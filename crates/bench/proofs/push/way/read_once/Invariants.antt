use Rattle.std.proofs.Common.{◌-◌, length}
use Rattle.bench.proofs.push.way.read_once.Given as goal

abbrev pub decreases-loop-rec : goal.decreases-loop-rec
decreases-loop-rec g l = length l.reading.text - l.reading.place
