-- What a walk over a buffer's records has taken.
use Rattle.std.proofs.Common.{◌≡◌, ℕ, ◌+◌, List, [], ◌∷◌, ◌++◌, length, sym, ap, ◌∙◌, subst, append_assoc, arith, length-append}
use Rattle.std.specs.Prelude.{Some}
use Rattle.dspec_deeds.specs.Words.{Record, StepsAhead}

-- a walk over these records has taken so many of them, and put them after what was there
pub record Walked (ahead : ℕ → List Record → Type 0) (before all to : List Record) (place count : ℕ) : Type 0 where
  pub done : List Record
  pub rest : List Record
  pub grown : to ≡ before ++ done
  pub still : ahead place rest
  pub whole : done ++ rest ≡ all
  pub counted : length done ≡ count

-- only records were put after what was there
pub record Grew (before to : List Record) : Type 0 where
  pub more : List Record
  pub grown : to ≡ before ++ more

-- a walk that goes on
pub walk_goes : (ahead : ℕ → List Record → Type 0) (before all to new : List Record) (place next count : ℕ) (r : Record) → Walked ahead before all to place count
    → ((rs : List Record) → ahead place rs → StepsAhead ahead rs (Some (r, next))) → new ≡ to ++ r ∷ [] → Walked ahead before all new next (count + 1)
walk_goes ahead before all to new place next count r w steps e = go w.rest w.still w.whole (steps w.rest w.still)
  where
    go : (rest : List Record) → ahead place rest → w.done ++ rest ≡ all → StepsAhead ahead rest (Some (r, next)) → Walked ahead before all new next (count + 1)
    go [] still whole step = absurd (cc (step))
    go (x ∷ rest) still whole step =
        let pair : ◌≡◌ {A = Record × ℕ} (x, step.0) (r, next) = cc in
        let same = ap (λ (p : Record × ℕ). p.0) pair in
        let there = ap (λ (p : Record × ℕ). p.1) pair in
        record {
          done = w.done ++ r ∷ [];
          rest = rest;
          grown = e ∙ (ap (λ xs. xs ++ r ∷ []) w.grown ∙ append_assoc before w.done (r ∷ []));
          still = subst (λ p. ahead p rest) there step.1.1;
          whole = append_assoc w.done (r ∷ []) rest ∙ (ap (λ y. w.done ++ y ∷ rest) (sym same) ∙ whole);
          counted = let n = w.counted in length-append w.done (r ∷ []) ∙ omega arith;
        }

-- one more is put after
pub grew_more : (before to new : List Record) (r : Record) → Grew before to → new ≡ to ++ r ∷ [] → Grew before new
grew_more before to new r g e = record { more = g.more ++ r ∷ []; grown = e ∙ (ap (λ xs. xs ++ r ∷ []) g.grown ∙ append_assoc before g.more (r ∷ [])) }
