use Rattle.std.proofs.Common.{take, map}
use Rattle.dspec_ctf.specs.Words.{AreTexts}
use Rattle.dspec_ctf.proofs.by_time.collect.Given as goal

abbrev pub invariant-loop-number : goal.invariant-loop-number
invariant-loop-number l = AreTexts l.enablings (take l.number (map (λ text. text.now) l.texts)) l.recs.items
