use Rattle.std.proofs.Common.{◌≡◌, take}
use Rattle.std.specs.List.{sum}
use Rattle.dspec_ctf_reading.specs.Words.{up_to_64}
use Rattle.dspec_ctf_reading.proofs.folder.counts.CpuCounts.total.Given as goal

abbrev pub invariant-loop-count : goal.invariant-loop-count
invariant-loop-count l = l.total ≡ up_to_64 (sum (take l.count-index l.self.events.items))
