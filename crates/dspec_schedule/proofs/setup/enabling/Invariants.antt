use Rattle.std.proofs.Common.{◌≡◌, length, map, take, Ok}
use Rattle.dspec_schedule.specs.Words.{each, field_of_word}
use Rattle.dspec_schedule.proofs.setup.enabling.Given as goal

abbrev pub invariant-loop-index : goal.invariant-loop-index
invariant-loop-index l = (length l.fields ≡ 8) × (each field_of_word (map (λ word. word.now) (take l.index l.words)) ≡ Ok (take l.index l.fields))
