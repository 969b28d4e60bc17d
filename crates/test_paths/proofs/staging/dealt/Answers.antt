use Rattle.std.proofs.Common.{◌≡◌, ◌++◌, ℕ, List, [], ◌∷◌, length, ap, ◌∙◌, arith, length-append}
use Rattle.std.specs.Prelude.{option_to_list, slice_get}
use Rattle.test_paths.specs.Words.{fresh_seat, View}
use Rattle.test_paths.proofs.staging.dealt.Goals as goal

-- what was taken off a list of one is that one
stood_alone : {A : Type 0} (xs ys : List A) (x : A) → xs ≡ ys ++ x ∷ [] → length xs ≡ 1 → xs ≡ x ∷ []
stood_alone xs [] x is one = is
stood_alone xs (y ∷ ys) x is one = absurd (omega (arith, one, ap length is, length-append ys (x ∷ [])))

pub returns-clause-first : goal.returns-clause-first
returns-clause-first c =
    let alone = stood_alone c.in_ok-words.seats.items c.pop.new.self.items c.unwrap-first.result
    (c.pop.ensures.items ∙ ap (λ o. c.pop.new.self.items ++ option_to_list o) c.unwrap-first.ensures)
    (c.in_ok-words.ensures.seats.0 ∙ c.requires.one) in
    let r = c.in_ok-words.ensures.seats.1 0 c.unwrap-first.result (ap (λ l. slice_get l 0) alone) in
    ((r.0, ap (λ (v : View). v.config) r.2), r.1, r.2 ∙ ap (λ k. fresh_seat k 0) c.in_ok-words.ensures.config)
