use Rattle.std.proofs.Common.{map, reverse, take}
use Rattle.specview.specs.Words.{shown_share}
use Rattle.specview.proofs.Cutting.{IsCut}
use Rattle.specview.proofs.batches.shares_of.Given as goal

abbrev pub invariant-loop-deed : goal.invariant-loop-deed
invariant-loop-deed l = IsCut l.cpu (reverse (take l.deed-index l.deeds)) l.fn.records (map shown_share l.found.items) l.rest l.count l.drops
