-- Readers that stand at the same place of the same text are the same reader.
use Rattle.std.proofs.Common.{◌≡◌, ◌≤◌, ℕ, List, length, ap, ◌∙◌, Bor}
use Rattle.std.specs.Coded.{le_prop}
use Rattle.dspec_buffer.specs.{Words.Ghosts, Words.Remaining, Words.Remaining-prop, declared.records.Records.TheInside.Inside}

pub same_inside : {D : Type 0} {G : Ghosts D} (schema : Bor D) (text : Bor (List ℕ)) (place : ℕ) (w w' : place ≤ length text.now)
    (m m' : Remaining (G.shape_of schema.now) (G.accepted schema.now) (G.text schema.now) text.now place)
    → ◌≡◌ {A = Inside D G} (record { schema = schema; text = text; place = place; within = w; readable = m }) (record { schema = schema; text = text; place = place; within = w'; readable = m' })
same_inside {D} {G} schema text place w w' m m' =
    let both : ◌≡◌ {A = (place ≤ length text.now) × Remaining (G.shape_of schema.now) (G.accepted schema.now) (G.text schema.now) text.now place} (w, m) (w', m') =
    ap (λ z. (z, m)) (le_prop w w') ∙ ap (λ z. (w', z)) (Remaining-prop (G.shape_of schema.now) (G.accepted schema.now) (G.text schema.now) text.now place m m') in
    let F : ((place ≤ length text.now) × Remaining (G.shape_of schema.now) (G.accepted schema.now) (G.text schema.now) text.now place)
    → Inside D G = λ z. record { schema = schema; text = text; place = place; within = z.0; readable = z.1 } in
    ap F both
