use Rattle.std.proofs.Common.{◌≡◌, true, take, is_ok}
use Rattle.std.specs.List.{list_all}
use Rattle.dspec_schedule.specs.Words.{wide_number_of}
use Rattle.dspec_schedule.proofs.number.are_numbers.Given as goal

abbrev pub invariant-loop-word : goal.invariant-loop-word
invariant-loop-word l = list_all (λ word. is_ok (wide_number_of word.now)) (take l.word-index l.words) ≡ true
