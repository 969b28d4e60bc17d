use Rattle.std.proofs.Common.{◌++◌, ap, ◌∙◌}
use Rattle.std.specs.Prelude.{option_to_list, slice_get}
use Rattle.test_sessions.specs.Words.{View, fresh_seat}
use Rattle.test_sessions.proofs.Lone.{stood_two}
use Rattle.test_sessions.proofs.cpus.playing.dealt.Goals as goal

pub returns-clause-first : goal.returns-clause-first
returns-clause-first c =
    let both = stood_two c.in_ok-words.seats.items c.pop.new.self.items c.pop-2.new.self.items c.unwrap-first.result c.unwrap-second.result
    (c.pop.ensures.items ∙ ap (λ o. c.pop.new.self.items ++ option_to_list o) c.unwrap-second.ensures)
    (c.pop-2.ensures.items ∙ ap (λ o. c.pop-2.new.self.items ++ option_to_list o) c.unwrap-first.ensures)
    (c.in_ok-words.ensures.seats.0 ∙ c.requires.two) in
    let r = c.in_ok-words.ensures.seats.1 0 c.unwrap-first.result (ap (λ l. slice_get l 0) both) in
    ((r.0, ap (λ (v : View). v.config) r.2), r.1, r.2 ∙ ap (λ k. fresh_seat k 0) c.in_ok-words.ensures.config)

pub returns-clause-second : goal.returns-clause-second
returns-clause-second c =
    let both = stood_two c.in_ok-words.seats.items c.pop.new.self.items c.pop-2.new.self.items c.unwrap-first.result c.unwrap-second.result
    (c.pop.ensures.items ∙ ap (λ o. c.pop.new.self.items ++ option_to_list o) c.unwrap-second.ensures)
    (c.pop-2.ensures.items ∙ ap (λ o. c.pop-2.new.self.items ++ option_to_list o) c.unwrap-first.ensures)
    (c.in_ok-words.ensures.seats.0 ∙ c.requires.two) in
    let r = c.in_ok-words.ensures.seats.1 1 c.unwrap-second.result (ap (λ l. slice_get l 1) both) in
    ((r.0, ap (λ (v : View). v.config) r.2), r.1, r.2 ∙ ap (λ k. fresh_seat k 1) c.in_ok-words.ensures.config)
