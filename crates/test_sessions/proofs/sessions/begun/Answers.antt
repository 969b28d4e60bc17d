use Rattle.std.proofs.Common.{◌≡◌, [], ◌++◌, sym, ap, ◌∙◌, subst}
use Rattle.std.specs.Prelude.{option_to_list}
use Rattle.dspec_table.specs.declared.seats.Words.{Words}
use Rattle.test_sessions.specs.Words.{known, cpu_of, IsAt}
use Rattle.test_sessions.proofs.Pairs.{first_is, second_is}
use Rattle.test_sessions.proofs.sessions.begun.Goals as goal

pub returns-clause-first : goal.returns-clause-first
returns-clause-first c =
    let words = c.in-Ok.words in
    subst (λ (w : Words). IsAt w c.unwrap-first.result × (cpu_of c.unwrap-first.result ≡ 0) × ((known c.unwrap-first.result).own ≡ [])) (sym c.make-2.ensures)
    (first_is words c.in-Ok.seats.items c.pop.new.self.items c.pop-2.new.self.items c.unwrap-first.result c.unwrap-second.result
    (c.pop.ensures.items ∙ ap (λ o. c.pop.new.self.items ++ option_to_list o) c.unwrap-second.ensures)
    (c.pop-2.ensures.items ∙ ap (λ o. c.pop-2.new.self.items ++ option_to_list o) c.unwrap-first.ensures)
    (c.in-Ok.ensures.seats.0 ∙ c.sized-config.ensures.sizes.0) c.in-Ok.ensures.seats.1)

pub returns-clause-second : goal.returns-clause-second
returns-clause-second c =
    let words = c.in-Ok.words in
    subst (λ (w : Words). IsAt w c.unwrap-second.result × (cpu_of c.unwrap-second.result ≡ 1) × ((known c.unwrap-second.result).own ≡ [])) (sym c.make-2.ensures)
    (second_is words c.in-Ok.seats.items c.pop.new.self.items c.pop-2.new.self.items c.unwrap-first.result c.unwrap-second.result
    (c.pop.ensures.items ∙ ap (λ o. c.pop.new.self.items ++ option_to_list o) c.unwrap-second.ensures)
    (c.pop-2.ensures.items ∙ ap (λ o. c.pop-2.new.self.items ++ option_to_list o) c.unwrap-first.ensures)
    (c.in-Ok.ensures.seats.0 ∙ c.sized-config.ensures.sizes.0) c.in-Ok.ensures.seats.1)
