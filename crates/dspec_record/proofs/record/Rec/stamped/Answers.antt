-- A list of seven values, or of eight, is what is read of it one by one.
use Rattle.std.proofs.Common.{◌≡◌, ℕ, List, [], ◌∷◌, length, get_or, refl, ◌∙◌, ap, arith}
use Rattle.dspec_record.specs.Words.{Record}
use Rattle.dspec_record.proofs.record.Rec.stamped.Goals as goal

seven : (vs : List ℕ) → length vs ≡ 7 → get_or vs 0 0 ∷ get_or vs 1 0 ∷ get_or vs 2 0 ∷ get_or vs 3 0 ∷ get_or vs 4 0 ∷ get_or vs 5 0 ∷ get_or vs 6 0 ∷ [] ≡ vs
seven (a ∷ b ∷ c ∷ d ∷ e ∷ f ∷ g ∷ []) is = refl
seven _ is = absurd (omega (arith, is))

eight : (vs : List ℕ) → length vs ≡ 8
    → get_or vs 0 0 ∷ get_or vs 1 0 ∷ get_or vs 2 0 ∷ get_or vs 3 0 ∷ get_or vs 4 0 ∷ get_or vs 5 0 ∷ get_or vs 6 0 ∷ get_or vs 7 0 ∷ [] ≡ vs
eight (a ∷ b ∷ c ∷ d ∷ e ∷ f ∷ g ∷ h ∷ []) is = refl
eight _ is = absurd (omega (arith, is))

of_values : ℕ → ℕ → List ℕ → Record
of_values epid stamp vs = record { epid = epid; stamp = stamp; values = vs }

pub returns-in-len7-clause-holds : goal.returns-in-len7-clause-holds
unfolding of_values
returns-in-len7-clause-holds c =
    let long : length c.args.values.now ≡ 7 = omega arith in
    c.of-in-len7.ensures ∙ ap (of_values c.args.epid c.args.stamp) (seven c.args.values.now long)

pub returns-in-len8-clause-holds : goal.returns-in-len8-clause-holds
unfolding of_values
returns-in-len8-clause-holds c =
    let long : length c.args.values.now ≡ 8 = omega arith in
    c.of-in-len8.ensures ∙ ap (of_values c.args.epid c.args.stamp) (eight c.args.values.now long)
