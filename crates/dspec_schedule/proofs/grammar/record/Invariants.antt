use Rattle.std.proofs.Common.{◌≡◌, length, map, take, Ok}
use Rattle.dspec_schedule.specs.Words.{numbers_of}
use Rattle.dspec_schedule.proofs.grammar.record.Given as goal

abbrev pub invariant-loop-index : goal.invariant-loop-index
invariant-loop-index l = (length l.values ≡ 8) × (numbers_of (map (λ word. word.now) (take l.index l.rest)) ≡ Ok (take l.index l.values))
