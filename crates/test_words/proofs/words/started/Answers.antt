use Rattle.std.proofs.Common.{◌++◌, ap, ◌∙◌}
use Rattle.std.specs.Prelude.{option_to_list}
use Rattle.test_words.specs.Words.{known}
use Rattle.test_words.proofs.{Openers.none_unused, Pairs.first_is, Pairs.second_is}
use Rattle.test_words.proofs.words.started.Goals as goal

pub returns-clause-first : goal.returns-clause-first
returns-clause-first c =
    let words = c.in_ok-words.words in
    first_is words c.in_ok-words.seats.items c.pop.new.self.items c.pop-2.new.self.items c.unwrap-first.result c.unwrap-second.result
    (c.pop.ensures.items ∙ ap (λ o. c.pop.new.self.items ++ option_to_list o) c.unwrap-second.ensures)
    (c.pop-2.ensures.items ∙ ap (λ o. c.pop-2.new.self.items ++ option_to_list o) c.unwrap-first.ensures)
    (c.in_ok-words.ensures.seats.0 ∙ c.small.ensures.sizes.0) c.in_ok-words.ensures.seats.1

pub returns-clause-second : goal.returns-clause-second
returns-clause-second c =
    let words = c.in_ok-words.words in
    second_is words c.in_ok-words.seats.items c.pop.new.self.items c.pop-2.new.self.items c.unwrap-first.result c.unwrap-second.result
    (c.pop.ensures.items ∙ ap (λ o. c.pop.new.self.items ++ option_to_list o) c.unwrap-second.ensures)
    (c.pop-2.ensures.items ∙ ap (λ o. c.pop-2.new.self.items ++ option_to_list o) c.unwrap-first.ensures)
    (c.in_ok-words.ensures.seats.0 ∙ c.small.ensures.sizes.0) c.in_ok-words.ensures.seats.1

pub returns-clause-unused : goal.returns-clause-unused
returns-clause-unused c =
    let k = c.in_ok-words.words.config in
    (none_unused k 0 (known c.unwrap-first.result).own (returns-clause-first c).2, none_unused k 1 (known c.unwrap-second.result).own (returns-clause-second c).2)
